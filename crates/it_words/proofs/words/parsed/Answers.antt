use Rattle.std.proofs.Common.{rules, ap, sym, true, refl, ◌≡◌, ◌∙◌, [], ◌∷◌, map, string_bytes, inl}
use Rattle.std.proofs.Common.{inr}
use Rattle.clap.specs.Words.{HasKind, Kinds, app_of, fault_of, is_simple, is_simple_and_free}
use Rattle.clap.specs.Words.{kind_of, subcommand_of}
use Rattle.clap.specs.declared.error.Error.{Error}
use Rattle.clap.specs.declared.error.kind.ErrorKind.TheVariants as ErrorKind
use Rattle.it_words.specs.Commands.{program}
use Rattle.it_words.proofs.words.parsed.Goals as goal

is_plain : is_simple program ≡ true
unfolding program
is_plain = refl

is_free : is_simple_and_free program ≡ true
unfolding program
is_free = refl

-- an error that has one of no kinds is for want of memory
kind_of_none : (kinds : Kinds) (error : Error) → HasKind kinds error → kinds ≡ []
    → kind_of error ≡ ErrorKind.OutOfMemory
kind_of_none [] error (inl memory) none = memory
kind_of_none [] error (inr among) none = absurd among
kind_of_none (kind ∷ kinds) error has none = cc

pub returns-in-Ok-clause-parse : goal.returns-in-Ok-clause-parse
returns-in-Ok-clause-parse c =
    let same : app_of c.in_ok-command.field-0 ≡ program = search rules in
    ap (λ app. fault_of app (map string_bytes c.args.words.now)) (sym same)
    ∙ c.in-Ok.ensures.kinds (ap is_simple_and_free same ∙ is_free)

pub returns-in-Ok-clause-rows : goal.returns-in-Ok-clause-rows
returns-in-Ok-clause-rows c =
    let same : app_of c.in_ok-command.field-0 ≡ program = search rules in
    (c.in-Ok.ensures.matches (ap is_simple same ∙ is_plain)).1
    ∙ ap (λ app. subcommand_of app (map string_bytes c.args.words.now)) same

pub returns-in-Err-clause-err : goal.returns-in-Err-clause-err
returns-in-Err-clause-err c = λ none.
    let same : app_of c.in_ok-command.field-0 ≡ program = search rules in
    c.fault_of.ensures (kind_of_none _ c.in-Err.error
    (c.in-Err.ensures.kinds (ap is_simple_and_free same ∙ is_free))
    (ap (λ app. fault_of app (map string_bytes c.args.words.now)) same ∙ none))

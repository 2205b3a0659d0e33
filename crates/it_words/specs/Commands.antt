-- The commands and the program, in the parser's own terms (this profile's choice).
use Rattle.std.specs.Prelude.{List, [], ◌∷◌, true, codes, fold}
use Rattle.clap.specs.Words.{App, new_app, with_rule, with_subcommand}
use Rattle.it_words.specs.Arguments.{
  bare_option,
  depth_option,
  free_words,
  json_option,
  most_checks_option,
  needed_option,
  needed_word,
  needed_words,
  plain_option,
  plain_options,
}

-- signed ENVELOPE, one of --ring F and --keys F, and with the latter what may be left out:
-- --trusted-root F
abbrev pub signed_command : App
signed_command =
    with_rule (with_rule (with_rule (with_rule
    (new_app (codes "signed")) (needed_word (codes "envelope"))) (plain_option (codes "ring")))
    (plain_option (codes "keys"))) (plain_option (codes "trusted-root"))

-- match PATTERN PATH
abbrev pub match_command : App
match_command =
    with_rule (with_rule (new_app (codes "match")) (needed_word (codes "pattern")))
    (needed_word (codes "path"))

-- pae BODY --type TYPE
abbrev pub pae_command : App
pae_command =
    with_rule (with_rule (new_app (codes "pae")) (needed_word (codes "body")))
    (needed_option (codes "type"))

-- sign BODY --key ID --type TYPE, either --ring F or --signature SIG --keys F, and what may be left
-- out: --onto ENVELOPE
abbrev pub sign_command : App
sign_command =
    with_rule (with_rule (with_rule (with_rule (with_rule (with_rule (with_rule
    (new_app (codes "sign")) (needed_word (codes "body"))) (plain_option (codes "ring")))
    (plain_option (codes "signature"))) (plain_option (codes "keys")))
    (needed_option (codes "key"))) (needed_option (codes "type"))) (plain_option (codes "onto"))

-- digest PATH.., and what may be left out: --recursive --sha512
abbrev pub digest_command : App
digest_command =
    with_rule (with_rule (with_rule (new_app (codes "digest")) (needed_words (codes "path")))
    (bare_option (codes "recursive"))) (bare_option (codes "sha512"))

-- key, either FILE.. or --identity I --issuer S, and what may be left out: --name ID
abbrev pub key_command : App
key_command =
    with_rule (with_rule (with_rule (with_rule
    (new_app (codes "key")) (free_words (codes "file"))) (plain_option (codes "identity")))
    (plain_option (codes "issuer"))) (plain_option (codes "name"))

-- link --name NAME, and what may be left out: --materials SUMS --products SUMS
abbrev pub link_command : App
link_command =
    with_rule (with_rule (with_rule (new_app (codes "link"))
    (needed_option (codes "name"))) (plain_option (codes "materials")))
    (plain_option (codes "products"))

-- statement --sums SUMS --builder ID --build-type TYPE, and what may be left out: --parameters F
abbrev pub statement_command : App
statement_command =
    with_rule (with_rule (with_rule (with_rule (new_app (codes "statement"))
    (needed_option (codes "sums"))) (needed_option (codes "builder")))
    (needed_option (codes "build-type"))) (plain_option (codes "parameters"))

-- payload ENVELOPE
abbrev pub payload_command : App
payload_command = with_rule (new_app (codes "payload")) (needed_word (codes "envelope"))

-- check, with one of --policy F --layout F or both
abbrev pub check_command : App
check_command =
    with_rule (with_rule (new_app (codes "check")) (plain_option (codes "policy")))
    (plain_option (codes "layout"))

-- verify --policy F --layout F --links DIR --at MOMENT, and what may be left out: --sums F
-- --sums512 F --ring F.. --public-keys --trusted-root F --json[=N] --strict --summary --verifier ID
-- --resource URI --provenance F --records DIR --depth N --most-checks N
abbrev pub needed_of_verify : App
needed_of_verify =
    with_rule (with_rule (with_rule (with_rule (new_app (codes "verify"))
    (needed_option (codes "policy"))) (needed_option (codes "layout")))
    (needed_option (codes "links"))) (needed_option (codes "at"))

abbrev pub verify_command : App
verify_command =
    with_rule (with_rule (with_rule (with_rule (with_rule (with_rule (with_rule (with_rule
    (with_rule (with_rule (with_rule (with_rule (with_rule (with_rule
    needed_of_verify (plain_option (codes "sums"))) (plain_option (codes "sums512")))
    (plain_options (codes "ring"))) (bare_option (codes "public-keys")))
    (plain_option (codes "trusted-root"))) json_option) (bare_option (codes "strict")))
    (bare_option (codes "summary"))) (plain_option (codes "verifier")))
    (plain_option (codes "resource")))
    (plain_option (codes "provenance"))) (plain_option (codes "records"))) depth_option)
    most_checks_option

-- the program: a command has to be named, and no word asks for help
abbrev pub without_command : App
without_command = record (new_app (codes "itv")) {
  top = record (new_app (codes "itv")).top {
    disable_help_flag = true;
    disable_help_subcommand = true;
    subcommand_required = true;
  };
}

-- the commands, in the order in which the parser looks for their names
abbrev pub commands : List App
commands =
    signed_command ∷ match_command ∷ pae_command ∷ payload_command ∷ key_command ∷ sign_command
    ∷ digest_command ∷ link_command ∷ statement_command ∷ check_command ∷ verify_command ∷ []

-- the program with all of its commands
unfoldable pub program : App
program = fold (λ app command. with_subcommand app command.top) without_command commands

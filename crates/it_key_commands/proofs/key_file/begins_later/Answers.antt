use Rattle.std.proofs.Common.{codes}
use Rattle.std.proofs.lemmas.Str.Pattern.{contains_text}
use Rattle.it_key_commands.proofs.key_file.begins_later.Goals as goal

pub returns : goal.returns
returns c = contains_text c.contains.result (codes "\n-----BEGIN PUBLIC KEY-----") c.args.text.now
    c.contains.ensures.cases

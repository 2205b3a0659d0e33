-- What signatures are asked, as a check.
use Rattle.std.specs.Prelude.{None}
use Rattle.it_dsse.specs.Check.{Check}
use Rattle.it_public_keys.specs.Validity.{is_signature_with}
use Rattle.it_public_keys.specs.declared.question.Question.{Question}

-- it knows no key by an id, and its one key and message are those of the question
abbrev pub check_of : Question → Check
check_of question = record {
  key_of = λ id object. None;
  is_valid = λ n message sig. is_signature_with question.key.value question.digest
      question.message.value.items sig;
}

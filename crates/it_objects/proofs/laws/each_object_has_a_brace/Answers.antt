use Rattle.it_objects.proofs.Counted.{document_objects}
use Rattle.it_objects.proofs.laws.each_object_has_a_brace.Goals as goal

pub returns : goal.returns
returns c = document_objects

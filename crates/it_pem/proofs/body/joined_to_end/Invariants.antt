use denote.Shadow.{shadow}
use denote.Text.{Utf8}
use Rattle.std.proofs.Common.{◌≤◌, ℕ, List, length}
use Rattle.it_pem.specs.inside.Lines.{Gives}
use Rattle.it_pem.proofs.Walks.{Walked}
use Rattle.it_pem.proofs.body.joined_to_end.Given as goal

abbrev pub invariant-loop-line : goal.invariant-loop-line
invariant-loop-line l = record {
  is_text : shadow (Utf8 l.last);
  few : length l.joined ≤ 2048;
  walked : (all : List (List ℕ)) → Gives l.fn.lines all
      → Walked l.line-iterator all l.joined l.last;
}

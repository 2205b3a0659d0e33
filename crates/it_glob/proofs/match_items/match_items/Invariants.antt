use denote.Text.{Utf8}
use denote.Shadow.{shadow}
use Rattle.std.specs.Str.{chars}
use Rattle.it_glob.specs.inside.Restarts.{place_of}
use Rattle.it_glob.proofs.Counting.{Counts}
use Rattle.it_glob.proofs.Steps.{Stands, steps_left}
use Rattle.it_glob.proofs.match_items.match_items.Given as goal

abbrev pub invariant-loop-item : goal.invariant-loop-item
invariant-loop-item l = record {
  is_text : shadow (Utf8 l.text);
  stands : Stands (l.initial.items, chars l.initial.text) l.items (chars l.text)
      (place_of l.restart);
  counts : Counts (l.initial.items, chars l.initial.text) l.items (chars l.text)
      (place_of l.restart) l.steps;
}

abbrev pub decreases-loop-item : goal.decreases-loop-item
decreases-loop-item l = steps_left (l.initial.items, chars l.initial.text) l.items
    (place_of l.restart)

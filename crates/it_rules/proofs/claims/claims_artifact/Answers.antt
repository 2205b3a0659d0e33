use Rattle.it_rules.proofs.claims.claims_artifact.Goals as goal

pub returns-in-Match : goal.returns-in-Match
returns-in-Match c = rw c.in-Match.is
    (rw (
      c.as_str-in-Match-2.ensures,
      c.as_str-in-Match.ensures,
      c.as_str.ensures,
    ) at c.match_claims.ensures)

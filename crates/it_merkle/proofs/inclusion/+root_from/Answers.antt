use Rattle.std.proofs.Common.{arith}
use Rattle.it_merkle.proofs.Ways.{index_below, of_one, empty_from, front_leads}
use Rattle.it_merkle.proofs.Ways.{back_leads, none_in_front, none_in_back}
use Rattle.it_merkle.proofs.inclusion.+root_from.Goals as goal

pub returns-then-index-size : goal.returns-then-index-size
returns-then-index-size t c = λ root way. let below = index_below way in omega arith

pub returns-then-is_empty : goal.returns-then-is_empty
returns-then-is_empty t c =
    of_one c.args.hash.now c.args.index c.args.size c.args.path.now c.if-index-size.false
    c.if-size-eq1.true (empty_from c.args.path.now c.is_empty.result c.is_empty.ensures c.if-is_empty.true)

pub returns-in_err-left : goal.returns-in_err-left
returns-in_err-left t c =
    rw c.from_residual.ensures
    (none_in_front c.args.hash.now c.args.index c.args.size c.split_of-split.result c.args.path.now
    c.in-Some.rest.now c.in-Some.last.now c.split_of-split.ensures c.if-index-split.true
    c.in-Some.ensures.cases.0 c.in_err-left.ensures)

pub returns-then-index-split : goal.returns-then-index-split
returns-then-index-split t c =
    front_leads c.args.hash.now c.args.index c.args.size c.split_of-split.result c.args.path.now
    c.in-Some.rest.now c.in-Some.last.now c.in_ok-left.left c.node_hash.result
    c.split_of-split.ensures c.if-index-split.true c.in-Some.ensures.cases.0
    c.in_ok-left.ensures c.node_hash.ensures

pub returns-in_err-right : goal.returns-in_err-right
returns-in_err-right t c =
    rw c.from_residual-in_err-right.ensures
    (none_in_back c.args.hash.now c.args.index c.args.size c.split_of-split.result c.args.path.now
    c.in-Some.rest.now c.in-Some.last.now c.split_of-split.ensures c.if-index-split.false
    c.in-Some.ensures.cases.0 c.in_err-right.ensures)

pub returns : goal.returns
returns t c =
    back_leads c.args.hash.now c.args.index c.args.size c.split_of-split.result c.args.path.now
    c.in-Some.rest.now c.in-Some.last.now c.in_ok-right.right c.node_hash-2.result
    c.split_of-split.ensures c.if-index-split.false c.in-Some.ensures.cases.0
    c.in_ok-right.ensures c.node_hash-2.ensures

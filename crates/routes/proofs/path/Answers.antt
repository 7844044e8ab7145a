-- `routes::path` meets its contract. Assumes nothing.
use native.Mathlib.Omega.{arith}
use Rattle.routes.proofs.Accessing.{its_part}
use Rattle.ledger.proofs.Checking.{path_inside, part_is}
use Rattle.routes.proofs.path.Goals as goal

pub overflow_add-result : goal.overflow_add-result
overflow_add-result c = omega (arith, path_inside (its_part c.requires c.word.ensures.0 (rw c.slot.ensures at c.word-start.ensures.0) c.path_length.ensures))

pub slice_bounds-result-end : goal.slice_bounds-result-end
slice_bounds-result-end c = path_inside (its_part c.requires c.word.ensures.0 (rw c.slot.ensures at c.word-start.ensures.0) c.path_length.ensures)

pub returns : goal.returns
returns c = part_is (its_part c.requires c.word.ensures.0 (rw c.slot.ensures at c.word-start.ensures.0) c.path_length.ensures)

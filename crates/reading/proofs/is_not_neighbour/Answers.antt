-- `reading::is_not_neighbour` meets its contract. Assumes nothing.
use Prim.Native.Nat.{◌-◌, ◌<◌}
use mathlib.Core.Path.{sym, ◌∙◌, ap}
use mathlib.Core.Bool.{not}
use native.Mathlib.Omega.{arith}
use lib.Dec.{eqb}
use lib.ListN.{length}
use Rattle.types.specs.Numbers.{role_number}
use Rattle.as_path.specs.Segments.{number_bytes}
use Rattle.as_path.proofs.Scanning.{number_part, number_is}
use Rattle.as_path.proofs.Grounding.{first_whole, compared}
use Rattle.reading.proofs.is_not_neighbour.Goals as goal

pub slice_bounds-as_chunks-count : goal.slice_bounds-as_chunks-count
slice_bounds-as_chunks-count c = omega (arith, (first_whole number_bytes c.args.attr.now c.requires.1 c.requires.0).head)

pub slice_bounds-as_chunks-start : goal.slice_bounds-as_chunks-start
slice_bounds-as_chunks-start c = omega (arith, (first_whole number_bytes c.args.attr.now c.requires.1 c.requires.0).head)

pub bounds-numbers-0 : goal.bounds-numbers-0
bounds-numbers-0 c =
    let w = first_whole number_bytes c.args.attr.now c.requires.1 c.requires.0 in
    omega (arith, w.some, w.body, c.as_chunks.ensures.front_len)

pub returns : goal.returns
returns c =
    let xs = c.args.attr.now in
    let w = first_whole number_bytes xs c.requires.1 c.requires.0 in
    let h : 0 < length c.as_chunks.result.0.now = omega (arith, w.some, w.body, c.as_chunks.ensures.front_len) in
    let p = number_part number_bytes xs 2 (length xs - 2) 0 (omega (arith, w.some, w.body)) in
    let e = number_is _ _ c.as_chunks.ensures.front h c.from_be_bytes.ensures ∙ p in
    let other = sym c.is_route_server.ensures ∙ c.if-is_route_server.false in
    c.ne.ensures
    ∙ ap not (ap (λ x. eqb x c.args.neighbour.number.0) e)
    ∙ sym (compared number_bytes xs (role_number c.args.neighbour.role) c.args.neighbour.number.0 c.if-attr-ne-AS_SEQUENCE.false other w.some)

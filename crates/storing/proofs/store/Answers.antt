-- `storing::store` meets its contract. Assumes nothing.
use mathlib.Core.Path.{sym, ◌∙◌}
use Rattle.ledger.specs.Calls.{route_for}
use Rattle.types.specs.Numbers.{role_number}
use Rattle.ledger.proofs.Storing.{entry_is, store_taken, paths_short, full_routes, full_paths, storable, store_fits, store_done}
use Rattle.storing.proofs.store.Goals as goal

pub returns-then-is_at : goal.returns-then-is_at
returns-then-is_at c = sym (store_taken _ _ (sym c.is_at.ensures ∙ c.if-is_at.true))

pub returns-then-word-ge-MOST_ROUTES : goal.returns-then-word-ge-MOST_ROUTES
returns-then-word-ge-MOST_ROUTES c = sym (full_routes _ _ c.requires.1
    (sym c.is_at.ensures ∙ c.if-is_at.false) c.word.ensures.0 c.if-word-ge-MOST_ROUTES.true)

pub overflow_sub-word : goal.overflow_sub-word
overflow_sub-word c = paths_short _ c.requires.1 c.word-2.ensures.0

pub returns-then-word-path : goal.returns-then-word-path
returns-then-word-path c = sym (full_paths _ _ c.requires.1
    (sym c.is_at.ensures ∙ c.if-is_at.false) c.word-2.ensures.0 c.if-word-path.true)

pub insert-requires : goal.insert-requires
insert-requires c = let r = route_for c.args.number.0 (role_number c.args.neighbour.role) c.args.neighbour.number.0 c.args.verdict c.args.path.now in
    store_fits
    (storable _ r _ c.requires.0 c.requires.1 (sym c.is_at.ensures ∙ c.if-is_at.false) c.find-position.ensures.0
    c.word.ensures.0 c.if-word-ge-MOST_ROUTES.false c.word-2.ensures.0 c.if-word-path.false)
    (entry_is r c.from.ensures c.ground.ensures
    c.number.ensures c.place_a.ensures c.place_b.ensures)

pub returns : goal.returns
returns c = let r = route_for c.args.number.0 (role_number c.args.neighbour.role) c.args.neighbour.number.0 c.args.verdict c.args.path.now in
    store_done
    (storable _ r _ c.requires.0 c.requires.1 (sym c.is_at.ensures ∙ c.if-is_at.false) c.find-position.ensures.0
    c.word.ensures.0 c.if-word-ge-MOST_ROUTES.false c.word-2.ensures.0 c.if-word-path.false)
    (entry_is r c.from.ensures c.ground.ensures
    c.number.ensures c.place_a.ensures c.place_b.ensures)
    c.insert.ensures

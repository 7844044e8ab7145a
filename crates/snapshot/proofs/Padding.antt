-- The used words of a table, and the zeros behind them. Assumes nothing.
use Prim.Native.Nat.{ℕ, ◌+◌, ◌-◌, ◌*◌, ◌≤◌}
use mathlib.Core.Path.{◌≡◌, sym, ap, ◌∙◌}
use mathlib.Core.Bool.{true, and-eq-true_iff}
use mathlib.Core.List.{List, ◌∷◌, ◌++◌}
use native.Mathlib.Omega.{arith}
use lib.ListN.{length, take, get_or, replicate, length-append}
use lib.Seq.{length-take-le, take_at}
use Rattle.table.specs.Table.{Entry, counters, width, slots, bodies, pad, encode, decode, well_formed}
use Rattle.table.proofs.Tables.{length_slots}
use Rattle.table.proofs.Tabled.{table_laws}
use Rattle.register.proofs.Entries.{record_count, list_count}
use Rattle.register.proofs.Holding as register
use Rattle.ledger.proofs.Entries.{route_count, path_count}
use Rattle.ledger.proofs.Holding as ledger
use Rattle.register.specs.Register.{most_records, most_listed, record_head, record_tail, record_width, records_of, records_ok, register_ok}
use Rattle.ledger.specs.Routes.{most_routes, most_path_words, route_head, route_tail, route_width, routes_of, routes_ok, ledger_ok}
use Rattle.snapshot.specs.Snapshot.{used_count, used}

-- Words with zeros behind them.
pub take_pad : (size : ℕ) (xs : List ℕ) (n : ℕ) → length xs ≡ n → take n (pad size xs) ≡ xs
unfolding pad
take_pad size xs n e = take_at xs (replicate (size - length xs) 0) n e

-- The used words of a well-formed table are at least two and lie within it, and with zeros behind them they are all of it.
pub record Filled (slot : ℕ) (ws : List ℕ) : Type 0 where
  pub two : counters ≤ used_count slot ws
  pub within : used_count slot ws ≤ length ws
  pub long : length (used slot ws) ≡ used_count slot ws
  pub whole : pad (length ws) (used slot ws) ≡ ws

pub filled : (h t : ℕ) (ws : List ℕ) → well_formed h t ws ≡ true → Filled (width h t) ws
unfolding encode
filled h t ws e =
    let sound = (table_laws.exact h t).passed_sound ws e in
    let says = table_laws.says h t ws e in
    let es : List Entry = decode h t ws in
    let xs : List ℕ = length es ∷ (length (bodies es) ∷ (slots 0 es ++ bodies es)) in
    let n : used_count (width h t) ws ≡ counters + length es * width h t + length (bodies es) = (λ i. counters + says.entries i * width h t + says.body_words i) in
    let m : length xs ≡ used_count (width h t) ws = omega (arith, n, length-append (slots 0 es) (bodies es), length_slots h t 0 es sound.wide) in
    let fit : used_count (width h t) ws ≤ length ws = omega (arith, n, sound.fits) in
    record {
      two = omega arith;
      within = fit;
      long = length-take-le (used_count (width h t) ws) ws fit;
      whole =
          ap (λ l. pad (length ws) (take (used_count (width h t) ws) l)) sound.same
          ∙ ap (pad (length ws)) (take_pad (length ws) xs (used_count (width h t) ws) m)
          ∙ sym sound.same;
    }

pub register_filled : (reg : List ℕ) → register_ok reg ≡ true → Filled record_width reg
unfolding register_ok
register_filled reg e = filled record_head record_tail reg ((and-eq-true_iff (well_formed record_head record_tail reg) (records_ok (records_of reg))).0 e).0

pub ledger_filled : (led : List ℕ) → ledger_ok led ≡ true → Filled route_width led
unfolding ledger_ok
ledger_filled led e = filled route_head route_tail led ((and-eq-true_iff (well_formed route_head route_tail led) (routes_ok (routes_of led))).0 e).0

pub register_within : (reg : List ℕ) → register_ok reg ≡ true → used_count record_width reg ≤ length reg
register_within reg e = (register_filled reg e).within

pub ledger_within : (led : List ℕ) → ledger_ok led ≡ true → used_count route_width led ≤ length led
ledger_within led e = (ledger_filled led e).within

-- The used words, cut off as the code cuts them.
pub register_cut : (reg : List ℕ) (n : ℕ) → register_ok reg ≡ true → n ≡ used_count record_width reg → n ≡ length (take n reg)
register_cut reg n e m = sym (length-take-le n reg (omega (arith, m, register_within reg e)))

pub ledger_cut : (led : List ℕ) (n : ℕ) → ledger_ok led ≡ true → n ≡ used_count route_width led → n ≡ length (take n led)
ledger_cut led n e m = sym (length-take-le n led (omega (arith, m, ledger_within led e)))

pub ruleset cuts = (register_within, ledger_within, register_cut, ledger_cut)

-- Their two counts keep the limits.
pub register_limits : (reg : List ℕ) → register_ok reg ≡ true → (get_or reg 0 0 ≤ most_records) × (get_or reg 1 0 ≤ most_listed)
register_limits reg e =
    let room = register.has_room (records_of reg) (register.records-ok reg e) in (
      omega (arith, record_count reg (register.sound reg e), register.room_records (records_of reg) room),
      omega (arith, list_count reg (register.sound reg e), register.room_lists (records_of reg) room),
    )

pub ledger_limits : (led : List ℕ) → ledger_ok led ≡ true → (get_or led 0 0 ≤ most_routes) × (get_or led 1 0 ≤ most_path_words)
ledger_limits led e =
    let room = ledger.has_room (routes_of led) (ledger.routes-ok led e) in (
      omega (arith, route_count led (ledger.sound led e), ledger.room_routes (routes_of led) room),
      omega (arith, path_count led (ledger.sound led e), ledger.room_paths (routes_of led) room),
    )

-- The first word of a refusal is that of no answer, as far as the words alone show it; crate `c_api` has the law of the calls. Assumes nothing.
use Prim.Native.Nat.{ℕ, ◌≤◌}
use mathlib.Core.Path.{◌≡◌, refl}
use mathlib.Core.List.{[], ◌∷◌}
use native.Mathlib.Omega.{arith}
use Rattle.types.specs.declared.Hop.{Hop}
use Rattle.types.specs.declared.Hop.TheVariants.{NoAttestation, ProviderPlus, NotProviderPlus}
use Rattle.types.specs.declared.Verdict.{Verdict}
use Rattle.types.specs.declared.Verdict.TheVariants.{Valid, Invalid, Unknown}
use Rattle.types.specs.declared.Fault.{Fault}
use Rattle.types.specs.declared.Fault.TheVariants.{CutShort, UnknownType, Confederation, NoNumbers, ZeroNumber}
use Rattle.types.specs.declared.Refusal.{Refusal}
use Rattle.types.specs.declared.Refusal.TheVariants as refusal
use Rattle.types.specs.Numbers.{verdict_number, verdict_of, fault_number, refusal_number}
use Rattle.register.specs.Register.{most_records}
use Rattle.ledger.specs.Routes.{most_routes}
use Rattle.told.specs.Answers.{no_verdict, no_hop, not_filed, no_count, no_bytes, filed_told, counted_told, judged_told, hop_words, hopped_told, written_told}
use Rattle.told.specs.Marks.{Marks}
use Rattle.std.specs.Prelude.{Err, Ok, Result}
use Rattle.types.specs.declared.Answer.{Answer}
use Rattle.types.specs.declared.Filed.{Filed}
use Rattle.types.specs.declared.Filed.TheVariants.{New}
use Rattle.types.specs.declared.Filed.TheVariants.{Replaced}

-- ---- the word of a refusal, and any other

fault_some : (f : Fault) → fault_number f ≡ 0 → ⊥
fault_some CutShort e = omega arith
fault_some UnknownType e = omega arith
fault_some Confederation e = omega arith
fault_some NoNumbers e = omega arith
fault_some ZeroNumber e = omega arith

-- The number of a refusal is not 0.
number_some : (r : Refusal) → refusal_number r ≡ 0 → ⊥
number_some refusal.TableLength e = omega arith
number_some refusal.RegisterMalformed e = omega arith
number_some refusal.RoutesMalformed e = omega arith
number_some refusal.SourceNumber e = omega arith
number_some refusal.CustomerZero e = omega arith
number_some refusal.ProviderList e = omega arith
number_some refusal.NoRecord e = omega arith
number_some refusal.RegisterFull e = omega arith
number_some refusal.RoleNumber e = omega arith
number_some refusal.NeighbourZero e = omega arith
number_some refusal.AttributeLength e = omega arith
number_some (refusal.Attribute f p) e = fault_some f e
number_some refusal.PathLength e = omega arith
number_some refusal.RouteTaken e = omega arith
number_some refusal.NoRoute e = omega arith
number_some refusal.RoutesFull e = omega arith
number_some refusal.OutputLength e = omega arith
number_some refusal.Edition e = omega arith
number_some refusal.Contents e = omega arith
number_some refusal.SnapshotLength e = omega arith

-- Only the first word counts.
pub refused : {word : ℕ} (r : Refusal) → Marks word (refusal_number r) (word ∷ [])
refused r = (λ e. number_some r, λ h. refl)

answered : {word x : ℕ} → (x ≡ word → ⊥) → Marks word 0 (x ∷ [])
answered h = (λ e. absurd (h e), λ z. absurd (z refl))

-- ---- the answers of each call

pub file_marks : (f : Result Filed Refusal) → Marks not_filed (filed_told f).result (filed_told f).words
file_marks (Ok New) = answered (λ e. omega arith)
file_marks (Ok Replaced) = answered (λ e. omega arith)
file_marks (Err r) = refused r

no-verdict : (v : Verdict) → verdict_number v ≡ no_verdict → ⊥
no-verdict Valid e = omega arith
no-verdict (Invalid c) e = omega arith
no-verdict (Unknown a b) e = omega arith

pub judge_marks : (j : Result Answer Refusal) → Marks no_verdict (judged_told j).result (judged_told j).words
judge_marks (Ok a) = answered (no-verdict (verdict_of a))
judge_marks (Err r) = refused r

no-hop : (h : Hop) → Marks no_hop 0 (hop_words h)
no-hop NoAttestation = answered (λ e. omega arith)
no-hop (ProviderPlus o s) = answered (λ e. omega arith)
no-hop (NotProviderPlus o) = answered (λ e. omega arith)

pub hop_marks : (h : Result Hop Refusal) → Marks no_hop (hopped_told h).result (hopped_told h).words
hop_marks (Ok h) = no-hop h
hop_marks (Err r) = refused r

-- A count of records or of routes that a table has room for.
pub gone_marks : {n : ℕ} → n ≤ most_records → Marks no_count (counted_told (Ok n)).result (counted_told (Ok n)).words
gone_marks h = answered (λ e. omega (arith, e, h))

pub changed_marks : {n : ℕ} → n ≤ most_routes → Marks no_count (counted_told (Ok n)).result (counted_told (Ok n)).words
changed_marks h = answered (λ e. omega (arith, e, h))

-- A length from that of the empty tables' file on.
pub bytes_marks : {n : ℕ} → 36 ≤ n → Marks no_bytes (written_told (Ok n)).result (written_told (Ok n)).words
bytes_marks h = answered (λ e. omega (arith, e, h))

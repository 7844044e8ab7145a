-- A turn of the upstream loop, by the tests of its hop. Assumes nothing.
use Prim.Native.Nat.{ℕ, ◌+◌, ◌<◌}
use mathlib.Core.Path.{◌≡◌, refl, sym, ◌∙◌, ap, subst}
use mathlib.Core.List.{List}
use mathlib.Core.Bool.{Bool, true, false, cond, true≢false, ◌&&◌}
use lib.ListN.{length}
use Rattle.std.specs.Prelude.{Option, Some, None, is_none}
use Rattle.std.specs.Option.{option_or}
use Rattle.types.specs.declared.Origin.{Origin}
use Rattle.types.specs.declared.Origins.TheVariants.{One}
use Rattle.types.specs.declared.Hop.{Hop}
use Rattle.types.specs.declared.Hop.TheVariants.{NoAttestation, ProviderPlus, NotProviderPlus}
use Rattle.types.specs.declared.Cause.TheVariants.{ByHops}
use Rattle.types.specs.declared.Verdict.TheVariants.{Invalid}
use Rattle.rules.specs.Hops.{HopFunction, is_not_plus, is_unattested, origin_of, as_at}
use Rattle.rules.specs.Verdicts.{upstream}
use Rattle.verdict.proofs.Rising.{Rising, rises_noted}
use Rattle.verdict.proofs.Rising as rising

module _ {hop : HopFunction} {path : List ℕ} {a : Option ℕ} {i : ℕ} (g : Rising hop path a i) (h : i < length path)
    {x : Hop} (e : x ≡ hop (as_at path i) (as_at path (i + 1))) where
  -- A hop that is Not Provider+ ends the loop, and its register is named.
  pub rises_refused : {o : Origin} → is_not_plus x ≡ true → o ≡ origin_of x → Invalid (ByHops (i + 1) 0 (One o)) ≡ upstream hop path
  rises_refused {o} z q = go x refl
    where
      go : (y : Hop) → x ≡ y → Invalid (ByHops (i + 1) 0 (One o)) ≡ upstream hop path
      go NoAttestation p = absurd (true≢false (sym z ∙ ap is_not_plus p))
      go (ProviderPlus r s) p = absurd (true≢false (sym z ∙ ap is_not_plus p))
      go (NotProviderPlus r) p = rising.rises_refused g h e (p ∙ ap NotProviderPlus (sym (q ∙ ap origin_of p)))

  -- Another is passed, and noted if it is the first that is No Attestation.
  pub rises_on : {b : Bool} → is_not_plus x ≡ false → is_unattested x && is_none a ≡ b → Rising hop path (cond b (Some (i + 1)) a) (i + 1)
  rises_on z t = subst (λ b. Rising hop path (cond b (Some (i + 1)) a) (i + 1)) t (go x refl)
    where
      noted : (c : Option ℕ) → Rising hop path (option_or c (Some (i + 1))) (i + 1) → Rising hop path (cond (is_none c) (Some (i + 1)) c) (i + 1)
      noted None r = r
      noted (Some u) r = r

      go : (y : Hop) → x ≡ y → Rising hop path (cond (is_unattested y && is_none a) (Some (i + 1)) a) (i + 1)
      go NoAttestation p = noted a (rises_noted g h e p)
      go (ProviderPlus o s) p = rising.rises_on g h e z (ap is_unattested p)
      go (NotProviderPlus o) p = rising.rises_on g h e z (ap is_unattested p)

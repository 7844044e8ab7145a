-- What holds of both registers, by the origin. Assumes nothing.
use mathlib.Core.Path.{◌≡◌, refl}
use mathlib.Core.Bool.{Bool, true, cond, ◌&&◌}
use mathlib.Core.List.{List}
use borrow.Author.Tests.{eq-eqb}
use lib.ListN.{length}
use Rattle.types.specs.declared.Origin.{Origin}
use Rattle.types.specs.declared.Origin.TheVariants.{Public, Overrides}
use Rattle.types.proofs.Clashes.{not_both}
use Rattle.rules.specs.Records.{Record}
use Rattle.register.specs.Register.{register_words, register_ok}
use Rattle.registers.specs.Registers.{Registers, chosen, both_long, both_ok, BothFormed}
use Rattle.history.specs.Model.{Lists, lists_of, with_lists}
use Rattle.history.specs.Filings.{same_origin}

-- ---- origins

pub origin_is : (o p : Origin) → same_origin o p ≡ true → o ≡ p
origin_is Public Public e = refl
origin_is Public Overrides e = not_both refl e
origin_is Overrides Public e = not_both refl e
origin_is Overrides Overrides e = refl

pub origin_self : (o : Origin) → same_origin o o ≡ true
origin_self Public = refl
origin_self Overrides = refl

-- ---- lists

-- What holds of the lists of each register, and of others, holds with those put in.
pub of_each : (P : List Record → Type 0) (lists : Lists) (p : Origin) (others : List Record) → ((o : Origin) → P (lists_of o lists)) → P others
    → (o : Origin) → P (lists_of o (with_lists lists p others))
of_each P lists Public others h g Public = g
of_each P lists Public others h g Overrides = h Overrides
of_each P lists Overrides others h g Public = h Public
of_each P lists Overrides others h g Overrides = g

-- Lists that are the same in each register are the same.
pub same_lists : (a b : Lists) → ((o : Origin) → lists_of o a ≡ lists_of o b) → a ≡ b
same_lists a b e = λ i. record { public = e Public i; overrides = e Overrides i }

module _ {X : Type 0} (look : List Record → X) (o p : Origin) (lists : Lists) (test : Bool) (v : X) where
  -- Register p gets other lists, in which v is seen if a test passes and else what was before. In the other register nothing changes.
  pub seen_with : (others : List Record) → look others ≡ cond test v (look (lists_of p lists))
      → look (lists_of o (with_lists lists p others)) ≡ cond (same_origin p o && test) v (look (lists_of o lists))
  seen_with others e = by_origin o p e
    where
      by_origin : (o p : Origin) → look others ≡ cond test v (look (lists_of p lists))
          → look (lists_of o (with_lists lists p others)) ≡ cond (same_origin p o && test) v (look (lists_of o lists))
      by_origin Public Public e = e
      by_origin Public Overrides e = refl
      by_origin Overrides Public e = refl
      by_origin Overrides Overrides e = e

  -- The same where p keeps its lists.
  pub seen_left : look (lists_of p lists) ≡ cond test v (look (lists_of p lists))
      → look (lists_of o lists) ≡ cond (same_origin p o && test) v (look (lists_of o lists))
  seen_left e = by_origin o p e
    where
      by_origin : (o p : Origin) → look (lists_of p lists) ≡ cond test v (look (lists_of p lists))
          → look (lists_of o lists) ≡ cond (same_origin p o && test) v (look (lists_of o lists))
      by_origin Public Public e = e
      by_origin Public Overrides e = refl
      by_origin Overrides Public e = refl
      by_origin Overrides Overrides e = e

-- ---- words

-- Registers that are long and well formed each are so both.
pub both_formed : (reg : Registers) → ((o : Origin) → length (chosen o reg) ≡ register_words)
    → ((o : Origin) → register_ok (chosen o reg) ≡ true) → BothFormed reg
unfolding both_long both_ok
both_formed reg long ok =
    record {
      long = rw (eq-eqb (length reg.public) register_words (long Public), eq-eqb (length reg.overrides) register_words (long Overrides));
      ok = rw (ok Public, ok Overrides);
    }

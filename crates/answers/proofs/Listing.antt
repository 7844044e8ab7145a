-- Words written one by one, a space before each. Assumes nothing.
use Rattle.std.proofs.Common.{◌≡◌, refl, ap, ℕ, zero, suc, ◌+◌, ◌<◌, List, [], ◌∷◌, ◌++◌, length, get_or, take, append_assoc, append-nil, arith, add-one}
use Rattle.text.specs.Numbers.{decimal_of}
use Rattle.text.proofs.RoundTrips.{decimal_short}
use Rattle.text.proofs.Wrote.{writing}
use Rattle.answers.specs.Texts.{each_text}

pub no_words : each_text [] ≡ []
unfolding each_text
no_words = refl

pub one_more : (words : List ℕ) (i : ℕ) → i < length words → each_text (take (i + 1) words) ≡ each_text (take i words) ++ (32 ∷ decimal_of (get_or words i 0))
unfolding each_text
one_more [] i h = absurd (omega arith)
one_more (x ∷ words) zero h = ap (λ t. 32 ∷ t) (append-nil (decimal_of x))
one_more (x ∷ words) (suc i) h =
    let next : each_text (take (i + 1) words) ≡ each_text (take i words) ++ (32 ∷ decimal_of (get_or words i 0)) = one_more words i (omega arith) in
    rw (add-one, append_assoc (decimal_of x)) (ap (λ t. 32 ∷ (decimal_of x ++ t)) (rw add-one at next))

-- What a listing's loop needs.
pub ruleset listing = (no_words, one_more, decimal_short, writing)

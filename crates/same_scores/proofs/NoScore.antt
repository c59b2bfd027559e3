-- Lines with no state score: a pass whose every step changes nothing. Assumes nothing.
use mathlib.Core.Path.{◌≡◌, refl, ap, ◌∙◌}
use mathlib.Core.List.{List, []}
use Prim.Native.Nat.{ℕ, zero, suc, ◌+◌, ◌<◌}
use native.Mathlib.Omega.{arith}
use lib.Ieee.{Float}
use Rattle.lines.specs.declared.Attribute.{Attribute}
use Rattle.lines.specs.Passes.{through}
use Rattle.lines.specs.Scored.{scored_attribute, scored_at, scored_word, states_of}
use Rattle.same_scores.specs.Named.{ScoringInput, states_for}
use Rattle.same_scores.specs.NoScore.{NothingNamed, NoAttributes}
use Rattle.same_scores.proofs.Folds.{after, attribute_named, word_named}

through_idle : {S : Type 0} (step : ℕ → S → S) (first n : ℕ) → ((j : ℕ) → j < n → (s : S) → step (first + j) s ≡ s) → (s : S) → through step first n s ≡ s
unfolding through
through_idle step first zero h s = refl
through_idle step first (suc n) h s = h n (omega arith) (through step first n s) ∙ through_idle step first n (λ j k. h j (omega arith)) s

attribute_idle : (i : ScoringInput) (word : ℕ) (a : Attribute) → states_for i a.id ≡ [] → (s : List Float) → scored_attribute i.model i.weights word a s ≡ s
unfolding after
attribute_idle i word a e s = attribute_named i word a s ∙ rw e

pub nothing_named : NothingNamed
unfolding states_of scored_word scored_at
nothing_named i h =
    through_idle (scored_word i.model i.weights i.table i.first) 0 i.words (λ n l s.
    through_idle (scored_at i.model i.weights i.table (0 + n)) _ _ (λ a k t.
    attribute_idle i (0 + n) _ (h _ (record { word = 0 + n; place = _; below = omega arith; from = omega arith; to = omega arith; has = refl })) t) s) _

pub no_attributes : NoAttributes
unfolding states_of after
no_attributes i h =
    through_idle (scored_word i.model i.weights i.table i.first) 0 i.words (λ n l s.
    word_named i.model i.weights i.table i.first (0 + n) s
    ∙ ap (λ (attributes : List Attribute). after (scored_attribute i.model i.weights (0 + n)) attributes s) (h (0 + n) (omega arith))) _

-- Only what is named matters: inputs that agree there have the same scores, and so the same path, sum and lead. Assumes nothing.
use mathlib.Core.Path.{◌≡◌, refl, sym, ap, ap₂, ◌∙◌}
use mathlib.Core.List.{List}
use Prim.Native.Nat.{ℕ, ◌+◌, ◌*◌, ◌<◌}
use native.Mathlib.Omega.{arith}
use lib.ListN.{replicate}
use lib.Ieee.{Float}
use Rattle.best_path.specs.Decoded.{decoded_path, decoded_sum}
use Rattle.best_path.specs.Lead.{lead}
use Rattle.lines.specs.declared.Attribute.{Attribute}
use Rattle.lines.specs.Passes.{through, through_list}
use Rattle.binary64.specs.Numbers.{nought}
use Rattle.lines.specs.Scored.{scored_attribute, scored_at, scored_word, states_of, transition_entry_of, transitions_of}
use Rattle.same_scores.specs.Named.{ScoringInput, states_for}
use Rattle.same_scores.specs.Agree.{Agree, states_of_input, transitions_of_input, scores_of_input, OnlyNamedMatters}
use Rattle.same_scores.proofs.Folds.{after, through_same, attribute_named, word_named, label_pass, label_named, below_both}

module _ (i j : ScoringInput) (g : Agree i j) where
  -- an attribute of the line adds the same
  same_attribute : (word : ℕ) (a : Attribute) (s : List Float) → states_for i a.id ≡ states_for j a.id → scored_attribute i.model i.weights word a s ≡ scored_attribute j.model j.weights word a s
  same_attribute word a s e = attribute_named i word a s ∙ rw (e, g.labels) (sym (attribute_named j word a s))

  -- a word: its attributes are the same, and each adds the same
  same_word : (word : ℕ) → word < i.words → (s : List Float) → scored_word i.model i.weights i.table i.first word s ≡ scored_word j.model j.weights j.table j.first word s
  unfolding scored_word scored_at
  same_word word h s =
      through_same (scored_at i.model i.weights i.table word) (scored_at j.model j.weights i.table word) _ _ (λ n l t.
      same_attribute word _ t (g.attributes _ (record { word = word; place = _; below = h; from = omega arith; to = omega arith; has = refl }))) s
      ∙ word_named j.model j.weights i.table i.first word s
      ∙ ap (λ (attributes : List Attribute). after (scored_attribute j.model j.weights word) attributes s) (g.line word h)
      ∙ sym (word_named j.model j.weights j.table j.first word s)

  same_states : states_of_input i ≡ states_of_input j
  unfolding states_of
  same_states =
      through_same (scored_word i.model i.weights i.table i.first) (scored_word j.model j.weights j.table j.first) 0 i.words (λ n l t. same_word (0 + n) (omega arith) t) (replicate (i.words * i.model.labels) nought)
      ∙ ap₂ (λ (words labels : ℕ). through (scored_word j.model j.weights j.table j.first) 0 words (replicate (words * labels) nought)) g.words g.labels

  -- a label's list adds the same
  same_label : (label : ℕ) → label < i.model.labels → (s : List Float) → label_pass i label s ≡ label_pass j label s
  same_label label h s = label_named i label s ∙ rw (g.followers label h, g.labels) (sym (label_named j label s))

  same_transitions : transitions_of_input i ≡ transitions_of_input j
  unfolding transitions_of
  same_transitions =
      below_both (through_list (transition_entry_of i.model i.weights) i.model.label_lists_of.starts) i.model.label_lists_of.count i.model.labels _
      ∙ through_same (label_pass i) (label_pass j) 0 i.model.labels (λ n l t. same_label (0 + n) (omega arith) t) (replicate (i.model.labels * i.model.labels) nought)
      ∙ ap (λ (labels : ℕ). through (label_pass j) 0 labels (replicate (labels * labels) nought)) g.labels
      ∙ sym (below_both (through_list (transition_entry_of j.model j.weights) j.model.label_lists_of.starts) j.model.label_lists_of.count j.model.labels _)

  same_scores_lem : scores_of_input i ≡ scores_of_input j
  same_scores_lem = rw (same_transitions, same_states, g.labels)

pub only_named_matters : OnlyNamedMatters
only_named_matters i j g =
    let e = same_scores_lem i j g in
    record {
      same_states = same_states i j g;
      same_transitions = same_transitions i j g;
      path = ap₂ decoded_path e g.words;
      sum = ap₂ decoded_sum e g.words;
      ahead = ap₂ lead e g.words;
    }

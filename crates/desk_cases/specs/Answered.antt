-- The definitions answer every desk case as document 01 does: one statement, which the checker computes. Assumes nothing.
use Rattle.refusals.specs.declared.Refusal.{Refusal}
use Rattle.training.specs.declared.Trained.{Trained}
use Rattle.std.specs.Prelude.{◌≡◌, refl, List, [], ◌∷◌, map, ℕ, length, Float, Ok, Err, Result}
use Rattle.std.specs.Float.{binary64}
use Rattle.std.specs.Float.Ieee.{of_bits, to_bits, add, sub, mul, div, lt, le, eq, is_nan, of_int, round}
use Rattle.best_path.specs.Scores.{tabled, extended}
use Rattle.best_path.specs.Decoded.{last_largest, best, back, path_to, last_label, decoded_path, decoded_sum}
use Rattle.best_path.specs.Lead.{rival, positive_zero_of, lead_between, lead, none, by as ahead}
use Rattle.best_path.specs.Lead as L
use Rattle.best_path.specs.PathScore.{path_score}
use Rattle.lines.specs.Passes.{through, raised}
use Rattle.lines.specs.Tables.{Model}
use Rattle.lines.specs.Scored.{state_entry_of, scored_attribute, scored_at, scored_word, states_of, transition_entry_of, transitions_of}
use Rattle.lines.specs.Counted.{state_count, counted_attribute, counted_at, counted_word, transition_count_of, counted_transition, counts_of}
use Rattle.shuffle.specs.Shuffle.{chosen, swapped, swapped_at, shuffled_from, shuffled}
use Rattle.roots.specs.Root.{whole_root, nearest_root}
use Rattle.lines.specs.Data.{Data}
use Rattle.training.specs.Wrong.{wrong_at, wrong_of}
use Rattle.fronts.specs.Finite.{all_finite_of}
use Rattle.training.specs.Rules.{pushed, squared, pulled, spread, narrowed, step_of, by_perceptron, by_passive, by_arow, updated_by, beside_at_first, stops, averaged_at, averaged_by}
use Rattle.training.specs.Visits.{refused_as, unchanged, changed_to, finite_state, held_to, corrected, compared, visited}
use Rattle.training.specs.Epochs.{Settings, TrainingResult, counted_from, opened, visited_at, epoch_over, epoch, epoch_unless_over, begun, ran, refused_with, averaged, finished}
use Rattle.training.specs.Epochs as E
use Rattle.desk_cases.specs.Cases.{Question, decode, score, train, Answer, decoded, scored, trained, refused, CaseLead, no_lead, by, Case, cases}

floats : List ℕ → List Float
unfolding of_bits
floats bits = map (of_bits binary64) bits

lead_bits : L.Lead → CaseLead
unfolding to_bits
lead_bits none = no_lead
lead_bits (ahead x) = by (to_bits binary64 x)

-- "L=2, one word, attribute 0 of value 1 listing State features to labels 0 and 1, instance weight 1"
model : Model
model = record {
  labels = 2;
  features = record { count = 2; kinds = 0 ∷ 0 ∷ []; destinations = 0 ∷ 1 ∷ []; sources = 0 ∷ 0 ∷ [] };
  attribute_lists_of = record { count = 1; starts = 0 ∷ 2 ∷ []; size = 2; entries = 0 ∷ 1 ∷ [] };
  label_lists_of = record { count = 0; starts = 0 ∷ []; size = 0; entries = [] };
}

single : ℕ → Data
unfolding floats
single reference = record {
  instances = 1;
  starts = 0 ∷ 1 ∷ [];
  count = 1;
  words = record { starts = 0 ∷ 1 ∷ []; size = 1; ids = 0 ∷ []; values = floats (0x3FF0000000000000 ∷ []) };
  references = reference ∷ [];
  weights = floats (0x3FF0000000000000 ∷ []);
}

result : Result Trained Refusal → List Float → Answer
unfolding to_bits
result (Ok t) weights = trained t.epochs t.visits t.updates (map (to_bits binary64) weights)
result (Err why) weights = refused why.number why.place

-- what the definitions answer
pub answer : Question → Answer
unfolding floats lead_bits model single result add sub mul div lt le eq is_nan of_int round of_bits to_bits extended last_largest best back path_to last_label decoded_path decoded_sum rival positive_zero_of lead_between lead path_score through raised state_entry_of scored_attribute scored_at scored_word states_of transition_entry_of transitions_of state_count counted_attribute counted_at counted_word transition_count_of counted_transition counts_of chosen swapped swapped_at shuffled_from shuffled whole_root nearest_root wrong_at wrong_of all_finite_of pushed squared pulled spread narrowed step_of by_perceptron by_passive by_arow updated_by beside_at_first stops averaged_at averaged_by refused_as unchanged changed_to finite_state held_to corrected compared visited counted_from opened visited_at epoch_over epoch epoch_unless_over begun ran refused_with averaged finished E.trained
answer (decode labels words transitions states) =
    let s = tabled labels (floats transitions) (floats states) in
    decoded (decoded_path s words) (to_bits binary64 (decoded_sum s words)) (lead_bits (lead s words))
answer (score labels transitions states path) =
    scored (to_bits binary64 (path_score (tabled labels (floats transitions) (floats states)) path (length path)))
answer (train rule reference epochs) =
    let r = E.trained rule (record { epochs = epochs; epsilon = of_bits binary64 0; seed = 0 }) model (single reference) in
    result r.answer r.weights

pub answered : map (λ (c : Case). answer c.asks) cases ≡ map (λ (c : Case). c.says) cases
unfolding answer cases
answered = refl

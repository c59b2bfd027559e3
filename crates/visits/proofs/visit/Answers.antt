-- `visits::visit` meets its contract: predicted, looked at, and corrected where labels differ. Assumes nothing.
use Rattle.std.specs.Prelude.{Some}
use mathlib.Core.Path.{◌≡◌, sym, ◌∙◌}
use Prim.Native.Nat.{ℕ, ◌-◌, ◌≤◌, ◌<◌}
use native.Mathlib.Nat.{le_trans}
use native.Mathlib.Omega.{arith}
use borrow.Author.Rules.{rules}
use lib.ListN.{length, take, replicate, length-append}
use lib.Seq.{length-take-le}
use Rattle.lines.specs.Tables.{Model}
use Rattle.lines.specs.Data.{Data}
use Rattle.training.specs.Visits.{TrainingState}
use Rattle.prediction.specs.Tables.{training_model_of, training_data_of}
use Rattle.updates.specs.Updating.{state_of}
use Rattle.visits.proofs.Laws.{some_words, few_words, all_words, line_sound, ended_counted, ended_there, other_front}
use Rattle.visits.proofs.visit.Goals.{After-at-end, After-predict-p, Start}
use Rattle.visits.proofs.visit.Goals as goal

-- the model, the data and the state that the arguments make
abbrev model : Start → Model
model c =
    let a = c.args in
    training_model_of a.sizes a.kinds.now a.destinations.now a.sources.now a.starts.now a.entries.now a.label_starts.now a.label_entries.now

abbrev data_of : Start → Data
data_of c =
    let a = c.args in
    training_data_of a.sizes a.lines.now a.begins.now a.ids.now a.values.now a.references.now a.shares.now

abbrev state : Start → TrainingState
state c = state_of c.args.s c.args.weights.now c.args.beside.now

-- the instance's words, from the first up to the end
some : (c : After-at-end) → c.at-first.result < c.at-end.result
some c =
    some_words (let a = c.args in training_data_of a.sizes a.lines.now a.begins.now a.ids.now a.values.now a.references.now a.shares.now) _ _ _ c.at-first.ensures c.at-end.ensures c.requires.corpus c.requires.among

few : (c : After-at-end) → c.at-end.result - c.at-first.result ≤ 128
few c =
    few_words (let a = c.args in training_data_of a.sizes a.lines.now a.begins.now a.ids.now a.values.now a.references.now a.shares.now) _ _ _ c.at-first.ensures c.at-end.ensures c.requires.corpus c.requires.among

all : (c : After-at-end) → c.at-end.result ≤ length c.args.references.now
all c =
    le_trans (all_words (let a = c.args in training_data_of a.sizes a.lines.now a.begins.now a.ids.now a.values.now a.references.now a.shares.now) _ _ _ c.at-first.ensures c.at-end.ensures c.requires.corpus c.requires.among) c.requires.corpus.referenced

-- the front that the prediction is lent is as long as the instance
front : (c : After-predict-p) → let n = c.at-end.result - c.at-first.result in length (take n (replicate {A = ℕ} 128 0)) ≡ n
front c =
    length-take-le _ _ (few_words (let a = c.args in training_data_of a.sizes a.lines.now a.begins.now a.ids.now a.values.now a.references.now a.shares.now) _ _ _ c.at-first.ensures c.at-end.ensures c.requires.corpus c.requires.among)

pub overflow_sub-words : goal.overflow_sub-words
overflow_sub-words c = omega (arith, some (goal.at.overflow_sub-words c).After-at-end)

pub offset_bounds-references-first : goal.offset_bounds-references-first
offset_bounds-references-first c =
    omega (arith, some (goal.at.offset_bounds-references-first c).After-at-end, all (goal.at.offset_bounds-references-first c).After-at-end, c.well_formed)

pub slice_bounds-reference-count : goal.slice_bounds-reference-count
slice_bounds-reference-count c = omega (arith, some (goal.at.slice_bounds-reference-count c).After-at-end)

pub slice_bounds-reference-start : goal.slice_bounds-reference-start
slice_bounds-reference-start c = omega (arith, some (goal.at.slice_bounds-reference-start c).After-at-end)

pub slice_bounds-reference-end : goal.slice_bounds-reference-end
slice_bounds-reference-end c = all (goal.at.slice_bounds-reference-end c).After-at-end

pub slice_bounds-path-end : goal.slice_bounds-path-end
slice_bounds-path-end c = few (goal.at.slice_bounds-path-end c).After-at-end

pub slice_bounds-predict-end : goal.slice_bounds-predict-end
slice_bounds-predict-end c = sym (length-take-le _ _ (few (goal.at.slice_bounds-predict-end c).After-at-end))

pub predict-p-requires : goal.predict-p-requires
predict-p-requires c =
    record { sound_model = c.requires.model; sound_instance = line_sound (data_of (goal.at.predict-p-requires c).Start) _ _ _ c.at-first.ensures c.at-end.ensures c.requires.corpus c.requires.among; weights_len = (c.requires.exact.weights_long, length-take-le _ _ (few (goal.at.predict-p-requires c).After-at-end)) }

pub look-requires : goal.look-requires
look-requires c =
    (c.requires.visits, c.requires.updates)

pub returns-in-Some : goal.returns-in-Some
returns-in-Some c =
    let was = c.in-Some.is in record { fact = ended_there (data_of (goal.at.returns-in-Some c).Start) _ _ _ c.at-first.ensures c.at-end.ensures _ (model (goal.at.returns-in-Some c).Start) (state (goal.at.returns-in-Some c).Start) c.predict-p.ensures (sym (c.look.ensures _) ∙ was); visit_counted = ended_counted _ _ _ _ (λ l. sym (c.look.ensures l) ∙ was) c.requires.updates }

pub slice_bounds-path-end-2 : goal.slice_bounds-path-end-2
slice_bounds-path-end-2 c =
    simp length-append (omega (arith, c.predict-p.auto, front (goal.at.slice_bounds-path-end-2 c).After-predict-p))

pub slice_bounds-correct-end : goal.slice_bounds-correct-end
slice_bounds-correct-end c =
    sym (length-take-le _ _ (simp length-append (omega (arith, c.predict-p.auto, front (goal.at.slice_bounds-correct-end c).After-predict-p))))

pub offset_bounds-shares-i : goal.offset_bounds-shares-i
offset_bounds-shares-i c =
    omega (arith, c.requires)

pub bounds-shares-i : goal.bounds-shares-i
bounds-shares-i c =
    omega (arith, c.requires)

pub correct-requires : goal.correct-requires
correct-requires c =
    record {
      model = c.requires.model;
      line = line_sound (data_of (goal.at.correct-requires c).Start) _ _ _ c.at-first.ensures c.at-end.ensures c.requires.corpus c.requires.among;
      exact = c.requires.exact;
      path_long = length-take-le _ _ (simp length-append (omega (arith, c.predict-p.auto, front (goal.at.correct-requires c).After-predict-p)));
      few = c.predict-p.ensures.few;
      visits = c.requires.visits;
      updates = c.requires.updates;
    }

pub returns : goal.returns
returns c =
    let made = c.correct.ensures in record { fact = other_front (data_of (goal.at.returns c).Start) _ _ _ c.at-first.ensures c.at-end.ensures _ (model (goal.at.returns c).Start) (state (goal.at.returns c).Start) c.predict-p.ensures (sym (c.look.ensures _) ∙ c.in_default.is) (omega (arith, c.predict-p.auto, front (goal.at.returns c).After-predict-p)) _ made.fact; visit_counted = made.visit_counted }

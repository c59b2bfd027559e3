-- `trainers::train` keeps its promise: a refusal leaves all as it was; what was accepted is what learning relies on, and the parts lent are the needed fronts. Assumes nothing.
use Rattle.std.specs.Prelude.{Ok}
use mathlib.Core.Path.{◌≡◌, sym, ap, ◌∙◌}
use native.Mathlib.Omega.{arith}
use borrow.Author.Rules.{rules}
use lib.Seq.{length_front}
use Rattle.lines.specs.Tables.{Model}
use Rattle.lines.specs.Data.{Data}
use Rattle.prediction.specs.declared.Sizes.{Sizes}
use Rattle.prediction.specs.Tables.{training_model_of, training_data_of}
use Rattle.training_check.specs.Sound.{LentSized}
use Rattle.trainers.specs.Promise.{Given, Buffers, input_of, checked_of}
use Rattle.trainers.specs.Lent.{sizes_for}
use Rattle.trainers.proofs.Keeping.{front_long, front_count, Ready, checked_is, ready, resized, refused_promised, learned_promised}
use Rattle.refusals.proofs.Laws.{handed}
use Rattle.trainers.proofs.train.Goals.{In_ok-check_parameters, Start}
use Rattle.trainers.proofs.train.Goals as goal

-- what the call is given, by its counts, and the buffers
abbrev model : Start → Sizes → Model
model c sizes =
    let a = c.args in
    training_model_of sizes a.kinds.now a.destinations.now a.sources.now a.attribute_starts.now a.attribute_entries.now a.label_starts.now a.label_entries.now

abbrev corpus : Start → Sizes → Data
corpus c sizes =
    let a = c.args in
    training_data_of sizes a.lines.now a.begins.now a.ids.now a.values.now a.references.now a.shares.now

abbrev sized : Start → Sizes
sized c = sizes_for c.args.labels c.args.counts c.args.totals

abbrev given : Start → Given
given c = record { model = model c (sized c); corpus = corpus c (sized c) }

abbrev lent : Start → Buffers
lent c =
    let a = c.args in
    record { weights = a.weights.now; beside = a.beside.now; truly = a.truly.now; predicted = a.predicted.now; order = a.order.now }

-- the same where nothing was refused
abbrev given_on : In_ok-check_parameters → Given
given_on c =
    let a = c.args in
    let sizes = sizes_for a.labels a.counts a.totals in record {
      model = training_model_of sizes a.kinds.now a.destinations.now a.sources.now a.attribute_starts.now a.attribute_entries.now a.label_starts.now a.label_entries.now;
      corpus = training_data_of sizes a.lines.now a.begins.now a.ids.now a.values.now a.references.now a.shares.now;
    }

abbrev lent_on : In_ok-check_parameters → Buffers
lent_on c =
    let a = c.args in
    record { weights = a.weights.now; beside = a.beside.now; truly = a.truly.now; predicted = a.predicted.now; order = a.order.now }

-- the answer of the checks is the promise's
accepted_so : (c : In_ok-check_parameters) → checked_of c.args.method (given_on c) (lent_on c) ≡ Ok tt
accepted_so c =
    sym (checked_is c.args.method (given_on c) (lent_on c) c.check_input-input.ensures c.check_parameters.ensures) ∙ c.in_ok-check_parameters.was

-- nothing was refused, so all is as training relies on, and the buffers have room
relied : (c : In_ok-check_parameters) → Ready c.args.method (given_on c) (lent_on c)
relied c = ready c.args.method (given_on c) (lent_on c) (accepted_so c)

room : (c : In_ok-check_parameters) → LentSized c.args.counts.features c.args.totals.instances (input_of (given_on c) (lent_on c)).lent
room c = (relied c).sound.fits.lent

pub returns-in_err-check_parameters : goal.returns-in_err-check_parameters
returns-in_err-check_parameters c =
    let start = (goal.at.returns-in_err-check_parameters c).Start in
    rw (handed c.from_residual.ensures.1)
    (refused_promised c.args.method (given start) (lent start) _ (sym (checked_is c.args.method (given start) (lent start) c.check_input-input.ensures c.check_parameters.ensures) ∙ c.in_err-check_parameters.was))

pub slice_bounds-train-end : goal.slice_bounds-train-end
slice_bounds-train-end c =
    (room (goal.at.slice_bounds-train-end c).In_ok-check_parameters).order

pub slice_bounds-train-end-2 : goal.slice_bounds-train-end-2
slice_bounds-train-end-2 c =
    front_count _ _ (room (goal.at.slice_bounds-train-end-2 c).In_ok-check_parameters).order

pub slice_bounds-train-end-3 : goal.slice_bounds-train-end-3
slice_bounds-train-end-3 c =
    (room (goal.at.slice_bounds-train-end-3 c).In_ok-check_parameters).weights

pub slice_bounds-train-end-4 : goal.slice_bounds-train-end-4
slice_bounds-train-end-4 c =
    front_count _ _ (room (goal.at.slice_bounds-train-end-4 c).In_ok-check_parameters).weights

pub slice_bounds-train-end-5 : goal.slice_bounds-train-end-5
slice_bounds-train-end-5 c =
    (room (goal.at.slice_bounds-train-end-5 c).In_ok-check_parameters).beside

pub slice_bounds-train-end-6 : goal.slice_bounds-train-end-6
slice_bounds-train-end-6 c =
    front_count _ _ (room (goal.at.slice_bounds-train-end-6 c).In_ok-check_parameters).beside

pub slice_bounds-train-end-7 : goal.slice_bounds-train-end-7
slice_bounds-train-end-7 c =
    (room (goal.at.slice_bounds-train-end-7 c).In_ok-check_parameters).truly

pub slice_bounds-train-end-8 : goal.slice_bounds-train-end-8
slice_bounds-train-end-8 c =
    front_count _ _ (room (goal.at.slice_bounds-train-end-8 c).In_ok-check_parameters).truly

pub slice_bounds-train-end-9 : goal.slice_bounds-train-end-9
slice_bounds-train-end-9 c =
    (room (goal.at.slice_bounds-train-end-9 c).In_ok-check_parameters).predicted

pub slice_bounds-train-end-10 : goal.slice_bounds-train-end-10
slice_bounds-train-end-10 c =
    front_count _ _ (room (goal.at.slice_bounds-train-end-10 c).In_ok-check_parameters).predicted

pub train-requires : goal.train-requires
train-requires c =
    let allowed = ap (λ x. x.epochs) c.settings_of-settings.ensures in
    rw c.sizes_of-sizes.ensures (record {
      model = (relied (goal.at.train-requires c).In_ok-check_parameters).sound.model;
      corpus = (relied (goal.at.train-requires c).In_ok-check_parameters).sound.corpus;
      exact = record {
        weights_long = front_long _ _ (room (goal.at.train-requires c).In_ok-check_parameters).weights;
        beside_long = front_long _ _ (room (goal.at.train-requires c).In_ok-check_parameters).beside;
        truly_long = front_long _ _ (room (goal.at.train-requires c).In_ok-check_parameters).truly;
        predicted_long = front_long _ _ (room (goal.at.train-requires c).In_ok-check_parameters).predicted;
      };
      few = omega (arith, (relied (goal.at.train-requires c).In_ok-check_parameters).few, allowed);
      order_long = front_long _ _ (room (goal.at.train-requires c).In_ok-check_parameters).order;
    })

pub shape_of-weights : goal.shape_of-weights
shape_of-weights c = search length_front

pub shape_of-beside : goal.shape_of-beside
shape_of-beside c = search length_front

pub shape_of-truly : goal.shape_of-truly
shape_of-truly c = search length_front

pub shape_of-predicted : goal.shape_of-predicted
shape_of-predicted c = search length_front

pub shape_of-order : goal.shape_of-order
shape_of-order c = search length_front

pub returns : goal.returns
returns c =
    learned_promised c.args.method (given (goal.at.returns c).Start) (lent (goal.at.returns c).Start) (accepted_so (goal.at.returns c).In_ok-check_parameters) c.trainer_of-trainer.ensures c.settings_of-settings.ensures
    (resized (model (goal.at.returns c).Start) (corpus (goal.at.returns c).Start) c.sizes_of-sizes.ensures c.train.ensures.made_after c.train.ensures.swept)

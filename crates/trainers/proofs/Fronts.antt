-- What the fronts of the buffers hold after a call to which nothing of 1 to 7 applies. Assumes nothing.
use Rattle.std.specs.Prelude.{Ok}
use mathlib.Core.Path.{◌≡◌}
use lib.ListN.{take, drop, replicate, length-replicate}
use lib.Seq.{take_at}
use Rattle.binary64.specs.Numbers.{nought}
use Rattle.parameters.specs.declared.Method.{Method}
use Rattle.parameters.specs.Trainers.{rule_for, settings_for}
use Rattle.trainers.specs.Promise.{Given, Buffers, Outcome, checked_of, trained_of, holding, buffers_after, Promised}
use Rattle.trainers.proofs.Trained.{trained_long}

pub record Fronts (method : Method) (given : Given) (after : Buffers) : Type 0 where
  pub weights : take given.model.features.count after.weights ≡ (trained_of method given).weights
  pub beside : take given.model.features.count after.beside ≡ replicate given.model.features.count nought
  pub truly : take given.model.features.count after.truly ≡ replicate given.model.features.count nought
  pub predicted : take given.model.features.count after.predicted ≡ replicate given.model.features.count nought
  pub order : take given.corpus.instances after.order ≡ replicate given.corpus.instances 0

module _ (method : Method) (given : Given) (before : Buffers) where
  held : Fronts method given (holding (Ok tt) given (trained_of method given).weights before)
  held =
      let f = given.model.features.count in
      let n = given.corpus.instances in
      record {
        weights = take_at (trained_of method given).weights (drop f before.weights) f (trained_long (rule_for method) (settings_for method) given.model given.corpus);
        beside = take_at (replicate f nought) (drop f before.beside) f (length-replicate f nought);
        truly = take_at (replicate f nought) (drop f before.truly) f (length-replicate f nought);
        predicted = take_at (replicate f nought) (drop f before.predicted) f (length-replicate f nought);
        order = take_at (replicate n 0) (drop n before.order) n (length-replicate n 0);
      }

  pub after_is : (outcome : Outcome) → Promised method given before outcome → checked_of method given before ≡ Ok tt → outcome.after ≡ holding (Ok tt) given (trained_of method given).weights before
  unfolding buffers_after
  after_is outcome kept h = rw h at kept.after

  pub fronts : (outcome : Outcome) → Promised method given before outcome → checked_of method given before ≡ Ok tt → Fronts method given outcome.after
  fronts outcome kept h = rw (after_is outcome kept h) held

-- `perceptron_update::update` meets its contract. Assumes nothing.
use Rattle.perceptron_update.proofs.Parts.{by_perceptron_lem}
use Rattle.perceptron_update.proofs.update.Goals as goal

pub returns : goal.returns
returns c =
    let pushes = c.push-all.ensures in
    λ true_score predicted_score. record {
      update = by_perceptron_lem _ _ _ pushes.learned c.share-loss.ensures;
      finite = pushes.finite;
    }

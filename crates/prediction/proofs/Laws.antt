-- What scoring one instance relies on. Assumes nothing.
use mathlib.Core.Path.{◌≡◌}
use mathlib.Core.List.{List}
use Prim.Native.Nat.{ℕ, ◌≤◌}
use lib.ListN.{length}
use lib.Ieee.{Float}
use Rattle.lines.specs.Tables.{Model, Words}
use Rattle.lines.specs.Sound.{SoundTransitions}
use Rattle.lines.specs.Scored.{transitions_of, states_of}
use Rattle.feature_gen.specs.Sound.{SoundModel}
use Rattle.judging.specs.declared.Prediction.{Prediction}
use Rattle.judging.specs.Judged.{Judged}

module _ {m : Model} (s : SoundModel m) where
  pub transitions_sound : (weights : List Float) → m.features.count ≤ length weights → SoundTransitions m.labels m.features.count m.features.kinds m.features.destinations m.features.sources weights
  transitions_sound weights h = record {
    states = record { kinded = s.sized.kinds; aimed = s.sized.destinations; weighted = h; leads = s.destinations };
    sourced = s.sized.sources;
    leaves = s.sources;
  }

-- a judgement of two tables that are the line's scores is one of its scores
module _ (m : Model) (weights : List Float) (line : Words) (first : ℕ) where
  pub judged_as : {labels words : ℕ} {transitions states : List Float} {references after : List ℕ} {p : Prediction} → transitions ≡ transitions_of m weights → states ≡ states_of m weights line first words → Judged labels words transitions states references after p → Judged labels words (transitions_of m weights) (states_of m weights line first words) references after p
  judged_as t s j = rw (t, s) at j

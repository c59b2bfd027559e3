-- How C reads an answer: a number other than 0, with its place, is a refusal. Assumes nothing.
use Rattle.std.specs.Prelude.{◌≡◌, ℕ, ◌<◌}

-- the answer's number and place are these, and it is a refusal
pub record Gives (number place : ℕ) (this there : ℕ) : Type 0 where
  pub refusal : 0 < this
  pub number_is : number ≡ this
  pub place_is : place ≡ there

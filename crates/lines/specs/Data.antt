-- The instances that a trainer learns from. Assumes nothing.
use Rattle.std.specs.Prelude.{List, ℕ, take, drop, Float}
use Rattle.lines.specs.Passes.{start, size}
use Rattle.lines.specs.Tables.{Words}

-- "An instance is a list of words": instance i has the words from its start on; for each word its reference label, for each instance its weight
pub record Data : Type 0 where
  pub instances : ℕ
  pub starts : List ℕ
  pub count : ℕ
  pub words : Words
  pub references : List ℕ
  pub weights : List Float

-- the first word of an instance, how many words it has, and its reference labels
abbrev pub first_word : Data → ℕ → ℕ
first_word d i = start d.starts i

abbrev pub words_of : Data → ℕ → ℕ
words_of d i = size d.starts i

abbrev pub reference_of : Data → ℕ → List ℕ
reference_of d i = take (words_of d i) (drop (first_word d i) d.references)

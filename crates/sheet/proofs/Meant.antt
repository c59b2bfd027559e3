-- What `read_sheet` answers means what its rows mean. Assumes nothing.
use Rattle.std.specs.Prelude.{Ok}
use mathlib.Core.Path.{◌≡◌, sym, ◌∙◌, ap}
use mathlib.Core.List.{List}
use mathlib.Core.Logic.{◌↔◌}
use Prim.Native.Nat.{ℕ}
use Rattle.refusals.specs.Refusals.{Checked, numbered, refused_at}
use Rattle.refusals.specs.Said.{Said, refused}
use Rattle.refusals.proofs.Said.{refused_said, accepted_said}
use Rattle.sheet.specs.Fields.{labels_in_of, words_in}
use Rattle.sheet.specs.Rows.{sheet_checked}
use Rattle.sheet.specs.Promise.{LabelsAndWords, read, answer_by, answer_to}
use Rattle.sheet.specs.Meaning.{ReadingMeans}
use Rattle.sheet.proofs.RowsMeant.{sheets_mean, said_so}

-- what is said, by what the rows give
module _ (bytes : List ℕ) (said : Said LabelsAndWords) (c : Checked) (e : said ≡ answer_by c bytes) where
  abbrev sizes : LabelsAndWords
  sizes = record { labels = labels_in_of bytes; words = words_in bytes }

  pub refused_by : (number place : ℕ) → said ≡ refused (numbered number place) ↔ c ≡ refused_at number place
  refused_by number place = (
    λ h. (refused_said sizes c (numbered number place)).0 (sym e ∙ h),
    λ h. e ∙ (refused_said sizes c (numbered number place)).1 h,
  )

  read_by : said ≡ read (labels_in_of bytes) (words_in bytes) ↔ c ≡ Ok tt
  read_by = (λ h. accepted_said sizes sizes c (sym e ∙ h), λ h. e ∙ ap (λ (c : Checked). answer_by c bytes) h)

pub reading_means : ReadingMeans
unfolding answer_to
reading_means given before outcome p =
    said_so (sheets_mean given before)
    (refused_by given.bytes _ (sheet_checked given before) p.answers)
    (read_by given.bytes _ (sheet_checked given before) p.answers)

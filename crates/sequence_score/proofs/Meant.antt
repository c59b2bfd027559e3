-- What a path score answers means what `Meaning` says. Assumes nothing.
use mathlib.Core.Path.{sym, ap, ◌∙◌}
use mathlib.Core.List.{List, [], ◌∷◌}
use mathlib.Core.Logic.{◌↔◌}
use Prim.Native.Nat.{ℕ, ◌≤◌, ◌<◌}
use native.Mathlib.Omega.{arith}
use borrow.Author.Tests.{ltb-false, le-ltb}
use Rattle.refusals.specs.Refusals.{Checked, numbered}
use Rattle.refusals.specs.Said.{accepted, or_refused}
use Rattle.refusals.specs.Meaning.{Exactly}
use Rattle.refusals.proofs.Laws.{passes}
use Rattle.refusals.proofs.Said.{refused_said, accepted_said}
use Rattle.refusals.proofs.Meant.{ids_mean, ids_below}
use Rattle.best_path.specs.Scores.{label_at, tabled}
use Rattle.best_path.specs.PathScore.{path_score}
use Rattle.score_tables.specs.Meaning.{Row}
use Rattle.score_tables.proofs.Order.{row, not_table, of_table}
use Rattle.score_tables.proofs.Meant.{one_means, four_means, two_means, short_means, finite_tables}
use Rattle.refusal_rows.proofs.Groups.{Group, single, given_first, given_after, accepted_when, given_only}
use Rattle.refusal_rows.proofs.TableGroups.{pair, table_sixes}
use Rattle.sequence_score.specs.Rows.{path_longer, five, path_checked}
use Rattle.sequence_score.specs.Sound.{LabelsBelow}
use Rattle.sequence_score.specs.Promise.{Given, checked_of, answer_to}
use Rattle.sequence_score.specs.Meaning.{FiveAt, Meaning, PathsMean, AnswersMean}
use Rattle.sequence_score.proofs.Laws.{sound}

longer_means : (words count : ℕ) → Row (path_longer words count) 4 (count ≤ words)
longer_means words count = row 4 _ (λ h. ltb-false words count (passes 4 0 _ h)) (λ l. le-ltb words count l)

module _ (given : Given) where
  abbrev ones : Group
  ones = single (one_means given.labels)

  abbrev fours : Group
  fours = pair (four_means given.words) (longer_means given.words given.count)

  abbrev twos : Group
  twos = pair (two_means given.labels given.words given.transitions given.states) (short_means given.count given.path)

  abbrev labels_mean : Exactly (five given.labels given.path given.count) 5 given.count (λ word. given.labels ≤ label_at given.path word)
  labels_mean = ids_mean given.path given.count given.labels

  abbrev fives : Group
  fives = record {
    number = 5;
    rows = five given.labels given.path given.count ∷ [];
    Fine = LabelsBelow given.labels given.path given.count;
    At = FiveAt given;
    fine = (
      λ a. ids_below given.path given.count given.labels a.0,
      λ b. (labels_mean.accepted.1 (λ word l h. let d = b word l in omega arith), tt),
    );
    at = λ place. of_table place labels_mean;
    other = λ k d. (not_table labels_mean d, tt);
  }

  abbrev sixes : Group
  sixes = table_sixes given.labels given.words given.transitions given.states

  abbrev all : List Group
  all = ones ∷ fours ∷ twos ∷ fives ∷ sixes ∷ []

pub paths_mean : PathsMean
unfolding path_checked
paths_mean given =
    let o = ones given in
    let f = fours given in
    let t = twos given in
    let v = fives given in
    let s = sixes given in
    let a = accepted_when (all given) in
    record {
      one = λ place. given_first place o (f ∷ t ∷ v ∷ s ∷ []) tt;
      four = λ place. given_after place (o ∷ []) f (t ∷ v ∷ s ∷ []) tt tt;
      two = λ place. given_after place (o ∷ f ∷ []) t (v ∷ s ∷ []) tt tt;
      five = λ place. given_after place (o ∷ f ∷ t ∷ []) v (s ∷ []) tt tt;
      six = λ place. given_after place (o ∷ f ∷ t ∷ v ∷ []) s [] tt tt;
      only = λ number place. given_only (record { number = number; place = place }) (all given);
      accepted = (
        sound given.labels given.words given.transitions given.states given.path given.count,
        λ p.
            let z = p.sized_path.sized in
            a.1
            (z.labels_in, ((z.words_in_lem, p.sized_path.not_longer), ((z.room, p.sized_path.long_path), (p.below, finite_tables given.labels given.words given.transitions given.states z.labels_in.low p.finite)))),
      );
    }

-- another way to answer, which tells the same
pub told :
    {Refuses Answers : ℕ → ℕ → Type 0} {Accepts Accepted : Type 0} {given : Given} →
    ((number place : ℕ) → Answers number place → Refuses number place) →
    ((number place : ℕ) → 0 < number → Refuses number place → Answers number place) →
    Accepted ↔ Accepts →
    Meaning Refuses Accepts given →
    Meaning Answers Accepted given
told to from a m = record {
  one = λ place. (λ h. (m.one place).0 (to 1 place h), λ f. from 1 place (omega arith) ((m.one place).1 f));
  four = λ place. (λ h. (m.four place).0 (to 4 place h), λ f. from 4 place (omega arith) ((m.four place).1 f));
  two = λ place. (λ h. (m.two place).0 (to 2 place h), λ f. from 2 place (omega arith) ((m.two place).1 f));
  five = λ place. (λ h. (m.five place).0 (to 5 place h), λ f. from 5 place (omega arith) ((m.five place).1 f));
  six = λ place. (λ h. (m.six place).0 (to 6 place h), λ f. from 6 place (omega arith) ((m.six place).1 f));
  only = λ number place h. m.only number place (to number place h);
  accepted = (λ h. m.accepted.0 (a.0 h), λ f. a.1 (m.accepted.1 f));
}

pub answers_mean : AnswersMean
unfolding answer_to
answers_mean given outcome kept =
    let score = path_score (tabled given.labels given.transitions given.states) given.path given.count in
    told
    (λ number place h. (refused_said score (checked_of given) (numbered number place)).0 (sym kept.answers ∙ h))
    (λ number place _ h. kept.answers ∙ (refused_said score (checked_of given) (numbered number place)).1 h)
    (λ h. accepted_said score h.0 (checked_of given) (sym kept.answers ∙ h.1), λ h. (score, kept.answers ∙ ap (λ (c : Checked). or_refused c (accepted score)) h))
    (paths_mean given)

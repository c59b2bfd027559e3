-- What decoding a line answers means what `Meaning` says: the check's rows, and the answer that tells them. Assumes nothing.
use mathlib.Core.Path.{sym, ap, ◌∙◌}
use mathlib.Core.List.{List, [], ◌∷◌}
use mathlib.Core.Logic.{◌↔◌}
use Prim.Native.Nat.{ℕ, ◌<◌}
use native.Mathlib.Omega.{arith}
use lib.Ieee.{Float}
use Rattle.score_tables.proofs.Laws.{sized_of}
use Rattle.score_tables.proofs.Meant.{one_means, four_means, two_means, short_means, finite_tables, tables_finite}
use Rattle.refusal_rows.proofs.Groups.{Group, single, given_first, given_after, accepted_when, given_only}
use Rattle.refusal_rows.proofs.TableGroups.{pair, table_sixes}
use Rattle.viterbi.specs.Rows.{decode_checked}
use Rattle.viterbi.specs.Meaning.{Meaning, DecodingMeans, AnswersMean}
use Rattle.refusals.specs.Refusals.{Checked, numbered}
use Rattle.refusals.specs.Said.{or_refused}
use Rattle.refusals.proofs.Said.{refused_said, accepted_said}
use Rattle.best_path.specs.Decoded.{decoded_sum}
use Rattle.best_path.specs.Lead.{lead}
use Rattle.viterbi.specs.Promise.{SumAndLead, decoded, scores_of, checked_of, answer_to}

module _ (labels words : ℕ) (transitions states : List Float) (path : List ℕ) where
  abbrev ones : Group
  ones = single (one_means labels)

  abbrev fours : Group
  fours = single (four_means words)

  abbrev twos : Group
  twos = pair (two_means labels words transitions states) (short_means words path)

  abbrev sixes : Group
  sixes = table_sixes labels words transitions states

  abbrev all : List Group
  all = ones ∷ fours ∷ twos ∷ sixes ∷ []

pub decoding_means : DecodingMeans
unfolding decode_checked
decoding_means labels words transitions states path =
    let o = ones labels words transitions states path in
    let f = fours labels words transitions states path in
    let t = twos labels words transitions states path in
    let s = sixes labels words transitions states path in
    let a = accepted_when (all labels words transitions states path) in
    record {
      one = λ place. given_first place o (f ∷ t ∷ s ∷ []) tt;
      four = λ place. given_after place (o ∷ []) f (t ∷ s ∷ []) tt tt;
      two = λ place. given_after place (o ∷ f ∷ []) t (s ∷ []) tt tt;
      six = λ place. given_after place (o ∷ f ∷ t ∷ []) s [] tt tt;
      only = λ number place. given_only (record { number = number; place = place }) (all labels words transitions states path);
      accepted = (
        λ h.
            let x = a.0 h in
            (record { sized = sized_of x.0 x.1.0 x.1.1.0.0; finite = tables_finite labels words transitions states x.1.1.1 }, x.1.1.0.1),
        λ p.
            let z = p.0.sized in
            a.1 (z.labels_in, (z.words_in_lem, ((z.room, p.1), finite_tables labels words transitions states z.labels_in.low p.0.finite))),
      );
    }

-- another way to answer, which tells the same
pub told :
    {Refuses Answers : ℕ → ℕ → Type 0} {Accepts Accepted : Type 0} {labels words : ℕ} {transitions states : List Float} {path : List ℕ} →
    ((number place : ℕ) → Answers number place → Refuses number place) →
    ((number place : ℕ) → 0 < number → Refuses number place → Answers number place) →
    Accepted ↔ Accepts →
    Meaning Refuses Accepts labels words transitions states path →
    Meaning Answers Accepted labels words transitions states path
told to from a m = record {
  one = λ place. (λ h. (m.one place).0 (to 1 place h), λ f. from 1 place (omega arith) ((m.one place).1 f));
  four = λ place. (λ h. (m.four place).0 (to 4 place h), λ f. from 4 place (omega arith) ((m.four place).1 f));
  two = λ place. (λ h. (m.two place).0 (to 2 place h), λ f. from 2 place (omega arith) ((m.two place).1 f));
  six = λ place. (λ h. (m.six place).0 (to 6 place h), λ f. from 6 place (omega arith) ((m.six place).1 f));
  only = λ number place h. m.only number place (to number place h);
  accepted = (λ h. m.accepted.0 (a.0 h), λ f. a.1 (m.accepted.1 f));
}

pub answers_mean : AnswersMean
unfolding answer_to
answers_mean given before outcome kept =
    let found : SumAndLead = record { sum = decoded_sum (scores_of given) given.words; lead = lead (scores_of given) given.words } in
    let checked = checked_of given before in
    told
    (λ number place h. (refused_said found checked (numbered number place)).0 (sym kept.answers ∙ h))
    (λ number place _ h. kept.answers ∙ (refused_said found checked (numbered number place)).1 h) (
      λ h. accepted_said found (record { sum = h.0; lead = h.1 }) checked (sym kept.answers ∙ h.2),
      λ h. (found.sum, found.lead, kept.answers ∙ ap (λ (c : Checked). or_refused c (decoded found.sum found.lead)) h),
    )
    (decoding_means _ _ _ _ _)

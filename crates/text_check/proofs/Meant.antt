-- The reader's checks mean what `Meaning` says. Assumes nothing.
use Rattle.std.specs.Prelude.{Ok, Err}
use mathlib.Core.Path.{◌≡◌, refl, sym, ap, ◌∙◌}
use mathlib.Core.List.{[], ◌∷◌}
use mathlib.Core.Logic.{◌↔◌, inl, inr}
use Prim.Native.Nat.{ℕ, ◌≤◌}
use native.Mathlib.Omega.{arith}
use lib.Dec.{ltb}
use lib.ListN.{length}
use borrow.Author.Tests.{ltb-false, le-ltb}
use Rattle.refusals.specs.Refusals.{Checked, refused_at}
use Rattle.refusals.specs.Meaning.{FirstBad, FirstRefused}
use Rattle.refusals.proofs.Laws.{place_of_lem, passes}
use Rattle.score_tables.specs.Meaning.{Row}
use Rattle.score_tables.proofs.Order.{row, not_row, why}
use Rattle.refusal_rows.specs.Given.{AtZero}
use Rattle.refusal_rows.specs.Tests.{FirstBadOf}
use Rattle.refusal_rows.proofs.Means.{two_means}
use Rattle.refusal_rows.proofs.Groups.{Group, tested, given_first, given_after, accepted_when, given_only}
use Rattle.refusal_rows.proofs.TableGroups.{pair}
use Rattle.text_tables.specs.Tables.{tables}
use Rattle.text_tables.specs.Tally.{AboveAt}
use Rattle.text_check.specs.Rows.{too_long_of, text_counts, text_rooms, sequence_tests, text_sized, text_checked}
use Rattle.text_check.specs.Meaning.{TextChecksMean, LongMeans}
use Rattle.text_check.proofs.Long.{above, bad, first_bad}

-- three rows of one number, whose place is 0
module _ {a b c : Checked} {number : ℕ} {P Q R : Type 0} (r : Row a number P) (s : Row b number Q) (t : Row c number R) where
  at_zero_of_three : (place : ℕ) → FirstRefused (why number place) (a ∷ b ∷ c ∷ []) ↔ AtZero (P × (Q × R)) place
  at_zero_of_three place = (to, λ p. from p a refl)
    where
      to : FirstRefused (why number place) (a ∷ b ∷ c ∷ []) → AtZero (P × (Q × R)) place
      to (inl e) = let z : place ≡ 0 = place_of_lem (r.only _ e) in (z, λ f. r.refused.0 (rw z at e) f.0)
      to (inr (_, h)) = let p = ((pair s t).at place).0 h in (p.0, λ f. p.1 f.1)

      from : AtZero (P × (Q × R)) place → (x : Checked) → a ≡ x → FirstRefused (why number place) (a ∷ b ∷ c ∷ [])
      from p (Ok _) e = inr (e, ((pair s t).at place).1 (p.0, λ f. p.1 (r.accepted.0 e, f)))
      from p (Err w) e = inl (e ∙ r.only w e ∙ ap (refused_at number) (sym p.0))

  abbrev three : Group
  three = record {
    number = number;
    rows = a ∷ b ∷ c ∷ [];
    Fine = P × (Q × R);
    At = AtZero (P × (Q × R));
    fine = (
      λ h. (r.accepted.0 h.0, (s.accepted.0 h.1.0, t.accepted.0 h.1.1.0)),
      λ f. (r.accepted.1 f.0, (s.accepted.1 f.1.0, (t.accepted.1 f.1.1, tt))),
    );
    at = at_zero_of_three;
    other = λ k d. (not_row r d, (not_row s d, (not_row t d, tt)));
  }

long_row : (bytes : ℕ) → Row (too_long_of bytes) 2 (bytes ≤ 4294967295)
long_row bytes = row 2 (ltb 4294967295 bytes) (λ h. ltb-false 4294967295 bytes (passes 2 0 (ltb 4294967295 bytes) h)) (λ h. le-ltb 4294967295 bytes h)

pub text_checks_mean : TextChecksMean
unfolding text_sized text_checked
text_checks_mean bytes ss have =
    let counts = two_means (text_counts ss) in
    let sizes = pair (long_row bytes) counts in
    let twos = three (long_row bytes) counts (two_means (text_rooms (tables ss) have)) in
    let fours = tested 4 (sequence_tests ss) (refl, tt) in (
      record {
        two = λ place. given_first place sizes (fours ∷ []) tt;
        four = λ place. given_after place (sizes ∷ []) fours [] tt tt;
        only = λ w. given_only w (sizes ∷ fours ∷ []);
        accepted = accepted_when (sizes ∷ fours ∷ []);
      },
      record {
        two = λ place. given_first place twos (fours ∷ []) tt;
        four = λ place. given_after place (twos ∷ []) fours [] tt tt;
        only = λ w. given_only w (twos ∷ fours ∷ []);
        accepted = accepted_when (twos ∷ fours ∷ []);
      },
    )

pub long_means : LongMeans
long_means ss full place = (to, λ f. inl (first_bad ss full place f))
  where
    to : FirstBadOf (sequence_tests ss) place → FirstBad (AboveAt ss) (length ss) place
    to (inl f) = record {
      inside = f.inside;
      bad = above ss full place f.inside f.bad;
      lowest = λ j l a. f.lowest j l (bad ss full j (let k = f.inside in omega (arith, k, l)) a);
    }
    to (inr (_, h)) = absurd h

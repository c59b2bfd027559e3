-- The sequences of lines: what empty lines do, that none is empty, and that every word is in one of them. Assumes nothing.
use mathlib.Core.Path.{◌≡◌, refl, ap, ◌∙◌}
use mathlib.Core.List.{List, [], ◌∷◌, ◌++◌, append_assoc, append-nil, flatten}
use Rattle.layout.specs.Layout.{Word, Line, empty, word, ended, sequences_from, sequences, NoneEmpty, line_words}

-- "a further empty line changes nothing"
further : (ws : List Word) (ps ls : List Line) → sequences_from ws (ps ++ (empty ∷ empty ∷ ls)) ≡ sequences_from ws (ps ++ (empty ∷ ls))
unfolding sequences_from
further ws [] ls = refl
further ws (empty ∷ ps) ls = ap (λ (ss : List (List Word)). ended ws ++ ss) (further [] ps ls)
further ws (word w ∷ ps) ls = further (ws ++ (w ∷ [])) ps ls

pub further_empty : (ps ls : List Line) → sequences (ps ++ (empty ∷ empty ∷ ls)) ≡ sequences (ps ++ (empty ∷ ls))
further_empty ps ls = further [] ps ls

-- one at the start, or at the end: "a last line feed may be there or not"
pub first_empty : (ls : List Line) → sequences (empty ∷ ls) ≡ sequences ls
unfolding sequences_from
first_empty ls = refl

last : (ws : List Word) (ls : List Line) → sequences_from ws (ls ++ (empty ∷ [])) ≡ sequences_from ws ls
unfolding sequences_from
last ws [] = append-nil (ended ws)
last ws (empty ∷ ls) = ap (λ (ss : List (List Word)). ended ws ++ ss) (last [] ls)
last ws (word w ∷ ls) = last (ws ++ (w ∷ [])) ls

pub last_empty : (ls : List Line) → sequences (ls ++ (empty ∷ [])) ≡ sequences ls
last_empty ls = last [] ls

-- none is empty
full_ended : (ws : List Word) (ss : List (List Word)) → NoneEmpty ss → NoneEmpty (ended ws ++ ss)
full_ended [] ss h = h
full_ended (w ∷ ws) ss h = h

full_from : (ws : List Word) (ls : List Line) → NoneEmpty (sequences_from ws ls)
unfolding sequences_from
full_from [] [] = tt
full_from (w ∷ ws) [] = tt
full_from ws (empty ∷ ls) = full_ended ws (sequences_from [] ls) (full_from [] ls)
full_from ws (word w ∷ ls) = full_from (ws ++ (w ∷ [])) ls

pub none_empty : (ls : List Line) → NoneEmpty (sequences ls)
none_empty ls = full_from [] ls

-- and one behind the other they are the words of the lines
flat_ended : (ws : List Word) (ss : List (List Word)) → flatten (ended ws ++ ss) ≡ ws ++ flatten ss
unfolding flatten
flat_ended [] ss = refl
flat_ended (w ∷ ws) ss = refl

every_from : (ws : List Word) (ls : List Line) → flatten (sequences_from ws ls) ≡ ws ++ line_words ls
unfolding sequences_from flatten
every_from [] [] = refl
every_from (w ∷ ws) [] = refl
every_from ws (empty ∷ ls) = flat_ended ws (sequences_from [] ls) ∙ ap (λ (vs : List Word). ws ++ vs) (every_from [] ls)
every_from ws (word w ∷ ls) = every_from (ws ++ (w ∷ [])) ls ∙ append_assoc ws (w ∷ []) (line_words ls)

pub every_word : (ls : List Line) → flatten (sequences ls) ≡ line_words ls
every_word ls = every_from [] ls

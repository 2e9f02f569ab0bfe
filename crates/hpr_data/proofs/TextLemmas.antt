-- Texts judged one after another: what each says of what is found.
use Rattle.std.proofs.Common.{◌≡◌, ℕ, ◌+◌, ◌<◌, List, [], ◌∷◌, ◌++◌, length, take, drop, get_or, map, Bor, Option, Some, None, Ok, Err, Result, inl, inr, sym, ap, ◌∙◌, subst}
use Rattle.std.proofs.lemmas.List.{drop_more, get_or-map, length-map, take-append-drop, take_more}
use Rattle.hpr_io.specs.Files.{Files, lookup}
use Rattle.hpr_syntax.specs.Tree.{Tree}
use Rattle.hpr_refusals.specs.Refusals.{IsFileOf}
use Rattle.hpr_words.specs.Request.{Text}
use Rattle.hpr_data.specs.Findings.{Finding, OnAllTexts, OnBytes, OnText}
use Rattle.hpr_data.specs.Private.Comes.{AreAllTexts, Comes, FoundIs, StopIs}
use Rattle.hpr_data.specs.declared.found.Found.{Found}
use Rattle.hpr_data.specs.declared.found.Found.TheVariants as found
use Rattle.hpr_data.specs.declared.found.Stop.{Stop}
use Rattle.hpr_data.specs.declared.found.Stop.TheVariants as stop

-- what is found of P is found of what P gives
module _ (P Q : Finding → Type 0) (f : (x : Finding) → P x → Q x) where
  pub stop_map : (s : Stop) → StopIs P s → StopIs Q s
  stop_map stop.NoCall h = f _ h
  stop_map (stop.Word message) h = f _ h
  stop_map (stop.Absent file) h = f _ h
  stop_map (stop.Refused file why) h = f _ h
  stop_map (stop.TooManyEdges file) h = f _ h
  stop_map stop.Memory h = tt

  found_map : (x : Found) → FoundIs P x → FoundIs Q x
  found_map (found.Merged m) h = f _ h
  found_map (found.Interference cs) h = f _ h
  found_map (found.NoProgram n) h = f _ h
  found_map (found.Spent tries) h = f _ h
  found_map (found.Affected g numbers) (within, h) = (within, λ vs are. f _ (h vs are))
  found_map (found.Graph g) h = λ vs es are edges. f _ (h vs es are edges)
  found_map (found.Judged v) h = f _ h
  found_map (found.Ran o) h = f _ h

  pub comes_map : (result : Result Found Stop) → Comes P result → Comes Q result
  comes_map (Ok x) h = found_map x h
  comes_map (Err s) h = stop_map s h

-- one text
abbrev pub IsTextOf : Files → Text → Tree → Type 0
IsTextOf files file p = (bytes : List ℕ) × (lookup files file ≡ Some bytes) × IsFileOf bytes p

module _ (next : Tree → Type 0) (f : Finding) where
  refused_bytes : (told : Option (List ℕ)) (file : Text) → OnBytes told file (λ p. ⊥) f → OnBytes told file next f
  refused_bytes None file h = h
  refused_bytes (Some bytes) file (inl h) = inl h
  refused_bytes (Some bytes) file (inr (p, is, h)) = absurd h

  pub refused_text : (files : Files) (file : Text) → OnText files file (λ p. ⊥) f → OnText files file next f
  refused_text files file h = refused_bytes (lookup files file) file h

  pub spelled_text : (files : Files) (file : Text) (p : Tree) → IsTextOf files file p → next p → OnText files file next f
  spelled_text files file p (bytes, there, is) h = subst (λ (told : Option (List ℕ)). OnBytes told file next f) (sym there) (inr (p, is, h))

-- what comes behind a text
module _ (files : Files) (file : Text) (next : Tree → Finding → Type 0) where
  abbrev pub Behind : Finding → Type 0
  Behind f = OnText files file (λ p. next p f) f

  pub text_fails : (s : Stop) → StopIs (OnText files file (λ p. ⊥)) s → StopIs Behind s
  text_fails s h = stop_map (OnText files file (λ p. ⊥)) Behind (λ f k. refused_text (λ p. next p f) f files file k) s h

  pub past_text : (p : Tree) (result : Result Found Stop) → IsTextOf files file p → Comes (next p) result → Comes Behind result
  past_text p result is h = comes_map (next p) Behind (λ f k. spelled_text (λ q. next q f) f files file p is k) result h

  pub stop_behind : (p : Tree) (s : Stop) → IsTextOf files file p → StopIs (next p) s → StopIs Behind s
  stop_behind p s is h = past_text p (Err s) is h

-- several
module _ (files : Files) where
  one_more : (names : List Text) (file : Text) (ps : List Tree) (p : Tree) → AreAllTexts files names ps → IsTextOf files file p → AreAllTexts files (names ++ file ∷ []) (ps ++ p ∷ [])
  one_more [] file [] p are is = (is, tt)
  one_more [] file (q ∷ ps) p are is = absurd are
  one_more (n ∷ names) file [] p are is = absurd are
  one_more (n ∷ names) file (q ∷ ps) p are is = (are.0, one_more names file ps p are.1 is)

  past_front : (front names : List Text) (ps : List Tree) (f : Finding) → AreAllTexts files front ps → OnAllTexts files names (λ ps. ⊥) f → OnAllTexts files (front ++ names) (λ ps. ⊥) f
  past_front [] names ps f are h = h
  past_front (n ∷ front) names [] f are h = absurd are
  past_front (n ∷ front) names (p ∷ ps) f are h = spelled_text (λ q. OnAllTexts files (front ++ names) (λ qs. ⊥) f) f files n p are.0 (past_front front names ps f are.1 h)

  refused_behind : (next : Tree → Type 0) (other : Tree → Type 0) (f : Finding) (file : Text) → ((p : Tree) → other p → next p) → OnText files file other f → OnText files file next f
  refused_behind next other f file weaker h = of_bytes (lookup files file) h
    where
      of_bytes : (told : Option (List ℕ)) → OnBytes told file other f → OnBytes told file next f
      of_bytes None k = k
      of_bytes (Some bytes) (inl k) = inl k
      of_bytes (Some bytes) (inr (p, is, k)) = inr (p, is, weaker p k)

  -- a text that spells no program decides whatever the programs would
  refused_all : (names : List Text) (next : List Tree → Type 0) (f : Finding) → OnAllTexts files names (λ ps. ⊥) f → OnAllTexts files names next f
  refused_all [] next f h = absurd h
  refused_all (n ∷ names) next f h =
      refused_behind (λ p. OnAllTexts files names (λ ps. next (p ∷ ps)) f) (λ p. OnAllTexts files names (λ ps. ⊥) f) f n (λ p k. refused_all names (λ ps. next (p ∷ ps)) f k) h

  spelled_all : (names : List Text) (ps : List Tree) (next : List Tree → Type 0) (f : Finding) → AreAllTexts files names ps → next ps → OnAllTexts files names next f
  spelled_all [] [] next f are h = h
  spelled_all [] (p ∷ ps) next f are h = absurd are
  spelled_all (n ∷ names) [] next f are h = absurd are
  spelled_all (n ∷ names) (p ∷ ps) next f are h =
      spelled_text (λ q. OnAllTexts files names (λ qs. next (q ∷ qs)) f) f files n p are.0 (spelled_all names ps (λ qs. next (p ∷ qs)) f are.1 h)

  module _ (names : List Text) (next : List Tree → Finding → Type 0) where
    abbrev pub BehindAll : Finding → Type 0
    BehindAll f = OnAllTexts files names (λ ps. next ps f) f

    pub all_fail : (s : Stop) → StopIs (OnAllTexts files names (λ ps. ⊥)) s → StopIs BehindAll s
    all_fail s h = stop_map (OnAllTexts files names (λ ps. ⊥)) BehindAll (λ f k. refused_all names (λ ps. next ps f) f k) s h

    pub past_all : (ps : List Tree) (result : Result Found Stop) → AreAllTexts files names ps → Comes (next ps) result → Comes BehindAll result
    past_all ps result are h = comes_map (next ps) BehindAll (λ f k. spelled_all names ps (λ qs. next qs f) f are k) result h

-- names that are borrowed, taken one by one
abbrev pub named : List (Bor (List ℕ)) → List Text
named xs = map (λ s. s.now) xs

module _ (files : Files) (xs : List (Bor (List ℕ))) (i : ℕ) (ps : List Tree) (are : AreAllTexts files (take i (named xs)) ps) (d : Bor (List ℕ)) (low : i < length xs) where
  within : i < length (named xs)
  within = subst (λ n. i < n) (sym (length-map xs (λ s. s.now))) low

  here : get_or (named xs) i (get_or xs i d).now ≡ (get_or xs i d).now
  here = get_or-map (λ s. s.now) xs i d (get_or xs i d).now low

  parts : take i (named xs) ++ (get_or xs i d).now ∷ drop (i + 1) (named xs) ≡ named xs
  parts =
      ap (λ ws. take i (named xs) ++ ws) (sym (drop_more (named xs) i (get_or xs i d).now within ∙ ap (λ w. w ∷ drop (i + 1) (named xs)) here))
      ∙ take-append-drop i (named xs)

  pub more_texts : (p : Tree) → IsTextOf files (get_or xs i d).now p → AreAllTexts files (take (i + 1) (named xs)) (ps ++ p ∷ [])
  more_texts p is =
      subst (λ ws. AreAllTexts files ws (ps ++ p ∷ [])) (sym (take_more (named xs) i (get_or xs i d).now within ∙ ap (λ w. take i (named xs) ++ w ∷ []) here))
      (one_more files (take i (named xs)) (get_or xs i d).now ps p are is)

  pub text_fails_at : (s : Stop) → StopIs (OnText files (get_or xs i d).now (λ p. ⊥)) s → StopIs (OnAllTexts files (named xs) (λ ps. ⊥)) s
  text_fails_at s h =
      subst (λ ws. StopIs (OnAllTexts files ws (λ ps. ⊥)) s) parts
      (stop_map (OnAllTexts files ((get_or xs i d).now ∷ drop (i + 1) (named xs)) (λ ps. ⊥)) (OnAllTexts files (take i (named xs) ++ (get_or xs i d).now ∷ drop (i + 1) (named xs)) (λ ps. ⊥))
      (λ f k. past_front files (take i (named xs)) ((get_or xs i d).now ∷ drop (i + 1) (named xs)) ps f are k) s
      (text_fails files (get_or xs i d).now (λ p f. OnAllTexts files (drop (i + 1) (named xs)) (λ ps. ⊥) f) s h))

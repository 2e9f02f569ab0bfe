-- Files of a list, read one after another.
--
-- Read files named i ps == the first i of these files spell the programs
use Rattle.std.proofs.Common.{◌≡◌, ◌∙◌, ℕ, ◌+◌, ◌<◌, ◌≤◌, All, Bool, IsTrue, List, [], ◌∷◌, ◌++◌, length, take, drop, get_or, map, Bor, Option, Err, Result, inl, inr, refl, sym, ap, subst}
use Rattle.std.proofs.lemmas.List.{drop_more, get_or-map, length-map, take-append-drop, take_all, take_more}
use Rattle.std.specs.List.{AllByRecursion}
use Rattle.hpr_io.specs.Files.{Files, bytes_of}
use Rattle.hpr_syntax.specs.Shape.{IsProgram}
use Rattle.hpr_syntax.specs.Tree.{Tree}
use Rattle.hpr_refusals.specs.Refusals.{IsFileOf}
use Rattle.hpr_inputs.specs.Answer.{StopIs, Decides, Merges}
use Rattle.hpr_inputs.specs.Decision.{Decision}
use Rattle.hpr_inputs.specs.Files.{OnAllFiles}
use Rattle.hpr_inputs.specs.ReadsAll.{AreAllFilesOf, IsRefusedByAll}
use Rattle.hpr_inputs.specs.ReadsFile.{Fails}
use Rattle.hpr_inputs.specs.Reads.{IfTold, IsReached}
use Rattle.hpr_inputs.specs.declared.answer.Report.{Report}
use Rattle.hpr_inputs.specs.declared.answer.Stop.{Stop}
use Rattle.hpr_inputs.proofs.ReadLemmas.{FileOf, decides_map, file_fails, merges_told}

-- ---- what is decided of files, by what is decided of the front of them

module _ (fs : Files) where
  -- the programs that they spell
  pub are_programs : (named : List (List ℕ)) (ps : List Tree) → AreAllFilesOf fs named ps → AllByRecursion IsProgram ps
  are_programs [] [] are = tt
  are_programs [] (p ∷ ps) are = absurd are
  are_programs (n ∷ named) [] are = absurd are
  are_programs (n ∷ named) (p ∷ ps) are = (are.0.program, are_programs named ps are.1)

  one_more : (named : List (List ℕ)) (file : List ℕ) (ps : List Tree) (p : Tree) → AreAllFilesOf fs named ps → IsFileOf (bytes_of fs file) p → AreAllFilesOf fs (named ++ file ∷ []) (ps ++ p ∷ [])
  one_more [] file [] p are is = (is, tt)
  one_more [] file (q ∷ ps) p are is = absurd are
  one_more (n ∷ named) file [] p are is = absurd are
  one_more (n ∷ named) file (q ∷ ps) p are is = (are.0, one_more named file ps p are.1 is)

  past_front : (front named : List (List ℕ)) (ps : List Tree) (r : Decision) → AreAllFilesOf fs front ps → IsRefusedByAll fs named r → IsRefusedByAll fs (front ++ named) r
  past_front [] named ps r are h = h
  past_front (n ∷ front) named [] r are h = absurd are
  past_front (n ∷ front) named (p ∷ ps) r are h = inr (p, are.0, past_front front named ps r are.1 h)

  -- a refusal of a file decides whatever the programs would
  refused_all : (named : List (List ℕ)) (next : List Tree → Type 0) (r : Decision) → IsRefusedByAll fs named r → OnAllFiles fs named next r
  refused_all [] next r h = absurd h
  refused_all (n ∷ named) next r (inl h) = inl h
  refused_all (n ∷ named) next r (inr (p, is, h)) = inr (p, is, refused_all named (λ ps. next (p ∷ ps)) r h)

  pub spelled_all : (named : List (List ℕ)) (ps : List Tree) (next : List Tree → Type 0) (r : Decision) → AreAllFilesOf fs named ps → next ps → OnAllFiles fs named next r
  spelled_all [] [] next r are h = h
  spelled_all [] (p ∷ ps) next r are h = absurd are
  spelled_all (n ∷ named) [] next r are h = absurd are
  spelled_all (n ∷ named) (p ∷ ps) next r are h = inr (p, are.0, spelled_all named ps (λ qs. next (p ∷ qs)) r are.1 h)

module _ (files : Option Files) where
  -- a file behind those that spell programs is reached
  reached_behind : (front : List (List ℕ)) (file : List ℕ) (named : List (List ℕ)) (ps : List Tree) → IfTold files (λ fs. AreAllFilesOf fs front ps) → IsReached files (front ++ file ∷ named) file
  reached_behind [] file named ps are = inl refl
  reached_behind (n ∷ front) file named [] are = inr (λ fs t. absurd (are fs t), reached_behind front file named [] (λ fs t. absurd (are fs t)))
  reached_behind (n ∷ front) file named (p ∷ ps) are = inr (λ fs t. (p, (are fs t).0), reached_behind front file named ps (λ fs t. (are fs t).1))

  module _ (before now : ℕ) where
    behind_fails : (front : List (List ℕ)) (file : List ℕ) (named : List (List ℕ)) (ps : List Tree) (s : Stop) → IfTold files (λ fs. AreAllFilesOf fs front ps) → Fails files file before now s
        → StopIs (λ r. IfTold files (λ fs. IsRefusedByAll fs (front ++ file ∷ named) r)) (IsReached files (front ++ file ∷ named)) before now s
    behind_fails front file named ps s are h =
        decides_map files (IsReached files (front ++ file ∷ named)) before now (λ r. IfTold files (λ fs. IsRefusedByAll fs (file ∷ named) r)) (λ r. IfTold files (λ fs. IsRefusedByAll fs (front ++ file ∷ named) r))
        (λ r k fs t. past_front fs front (file ∷ named) ps r (are fs t) (k fs t)) (Err s)
        (file_fails files (IsReached files (front ++ file ∷ named)) before now file (λ fs p r. IsRefusedByAll fs named r) s (reached_behind front file named ps are) h)

    module _ (named : List (List ℕ)) (next : List Tree → Decision → Type 0) where
      abbrev pub Reached : Decision → Type 0
      Reached r = IfTold files (λ fs. OnAllFiles fs named (λ ps. next ps r) r)

      pub all_fail : (s : Stop) → StopIs (λ r. IfTold files (λ fs. IsRefusedByAll fs named r)) (IsReached files named) before now s → StopIs Reached (IsReached files named) before now s
      all_fail s h =
          decides_map files (IsReached files named) before now (λ r. IfTold files (λ fs. IsRefusedByAll fs named r)) Reached (λ r k fs t. refused_all fs named (λ ps. next ps r) r (k fs t)) (Err s) h

      pub past_all : (ps : List Tree) (result : Result Report Stop) → IfTold files (λ fs. AreAllFilesOf fs named ps) → now ≡ before → Merges (next ps) result
          → Decides Reached (IsReached files named) before now result
      past_all ps result are same h =
          decides_map files (IsReached files named) before now (λ r. IfTold files (λ fs. next ps r)) Reached (λ r k fs t. spelled_all fs named ps (λ qs. next qs r) r (are fs t) (k fs t)) result
          (merges_told files (IsReached files named) before now (next ps) result same h)

-- ---- names that are borrowed, taken one by one

abbrev pub names : List (Bor (List ℕ)) → List (List ℕ)
names xs = map (λ s. s.now) xs

abbrev pub Read : Option Files → List (Bor (List ℕ)) → ℕ → List Tree → Type 0
Read files xs i ps = IfTold files (λ fs. AreAllFilesOf fs (take i (names xs)) ps)

module _ (files : Option Files) (xs : List (Bor (List ℕ))) (i : ℕ) (ps : List Tree) (are : Read files xs i ps) where
  module _ (d : Bor (List ℕ)) (low : i < length xs) where
    within : i < length (names xs)
    within = subst (λ n. i < n) (sym (length-map xs (λ s. s.now))) low

    here : get_or (names xs) i (get_or xs i d).now ≡ (get_or xs i d).now
    here = get_or-map (λ s. s.now) xs i d (get_or xs i d).now low

    parts : take i (names xs) ++ (get_or xs i d).now ∷ drop (i + 1) (names xs) ≡ names xs
    parts =
        ap (λ ws. take i (names xs) ++ ws) (sym (drop_more (names xs) i (get_or xs i d).now within ∙ ap (λ w. w ∷ drop (i + 1) (names xs)) here))
        ∙ take-append-drop i (names xs)

    pub more_read : (p : Tree) → FileOf files (get_or xs i d).now p → Read files xs (i + 1) (ps ++ p ∷ [])
    more_read p is fs t =
        subst (λ ws. AreAllFilesOf fs ws (ps ++ p ∷ [])) (sym (take_more (names xs) i (get_or xs i d).now within ∙ ap (λ w. take i (names xs) ++ w ∷ []) here))
        (one_more fs (take i (names xs)) (get_or xs i d).now ps p (are fs t) (is fs t))

    pub read_fails_at : (before now : ℕ) (s : Stop) → Fails files (get_or xs i d).now before now s
        → StopIs (λ r. IfTold files (λ fs. IsRefusedByAll fs (names xs) r)) (IsReached files (names xs)) before now s
    read_fails_at before now s h =
        subst (λ ws. StopIs (λ r. IfTold files (λ fs. IsRefusedByAll fs ws r)) (IsReached files ws) before now s) parts
        (behind_fails files before now (take i (names xs)) (get_or xs i d).now (drop (i + 1) (names xs)) ps s are h)

-- each of the names may be asked for
pub served_at : (serves : List ℕ → Bool) (xs : List (Bor (List ℕ))) (i : ℕ) (d : Bor (List ℕ)) → i < length xs → All (λ n. IsTrue (serves n)) (names xs) → IsTrue (serves (get_or xs i d).now)
served_at serves xs i d low all =
    subst (λ n. IsTrue (serves n)) (get_or-map (λ s. s.now) xs i d (get_or xs i d).now low)
    (all i (get_or xs i d).now (subst (λ n. i < n) (sym (length-map xs (λ s. s.now))) low))

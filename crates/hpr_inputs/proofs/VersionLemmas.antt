-- The order of causes where three files are read.
use Rattle.std.proofs.Common.{◌≡◌, ℕ, List, [], ◌∷◌, refl, sym, subst, inl, inr, Option, Ok, Err, Result}
use Rattle.hpr_io.specs.Files.{Files}
use Rattle.hpr_syntax.specs.Tree.{Tree}
use Rattle.hpr_syntax.specs.Values.{Values}
use Rattle.hpr_inputs.specs.Answer.{StopIs, Decides, Merges}
use Rattle.hpr_inputs.specs.Decision.{Decision}
use Rattle.hpr_inputs.specs.ReadsFile.{Fails}
use Rattle.hpr_inputs.specs.Reads.{IfTold, IsReached}
use Rattle.hpr_inputs.specs.Files.{OnFile, OnFiles}
use Rattle.hpr_inputs.specs.ReadsFiles.{AreFilesOf, IsRefusedByFiles}
use Rattle.hpr_inputs.specs.States.{OnState, RefusedWord}
use Rattle.hpr_inputs.specs.declared.answer.Report.{Report}
use Rattle.hpr_inputs.specs.declared.answer.Stop.{Stop}
use Rattle.hpr_inputs.specs.declared.answer.Stop.TheVariants as stop
use Rattle.hpr_inputs.specs.declared.versions.Versions.{Versions}
use Rattle.hpr_inputs.proofs.ReadLemmas.{FileOf, decides_map, merges_told, fails_from, file_fails, past_file, spelled}

module _ (files : Option Files) (base a b : List ℕ) where
  abbrev pub Reads : List ℕ → Type 0
  Reads file = IsReached files (base ∷ a ∷ b ∷ []) file

  abbrev pub Refused : Decision → Type 0
  Refused r = IfTold files (λ fs. IsRefusedByFiles fs base a b r)

  -- what the outcome is behind the first file, and behind the second
  abbrev AfterBase : Files → Tree → Decision → Type 0
  AfterBase fs p d = OnFile fs a (λ q. OnFile fs b (λ r. ⊥) d) d

  abbrev AfterA : Files → Tree → Decision → Type 0
  AfterA fs q d = OnFile fs b (λ r. ⊥) d

  module _ (before now : ℕ) where
    pub base_fails : (s : Stop) → Fails files base before now s → StopIs Refused Reads before now s
    base_fails s h = file_fails files Reads before now base AfterBase s (inl refl) h

    pub a_fails : (then : ℕ) (p : Tree) (s : Stop) → FileOf files base p → then ≡ before → Fails files a then now s → StopIs Refused Reads before now s
    a_fails then p s hp same h =
        past_file files Reads before now base AfterBase p (Err s) hp
        (file_fails files Reads before now a AfterA s (inr (spelled files base p hp, inl refl)) (fails_from files a before then now s same h))

    pub b_fails : (then : ℕ) (p q : Tree) (s : Stop) → FileOf files base p → FileOf files a q → then ≡ before → Fails files b then now s → StopIs Refused Reads before now s
    b_fails then p q s hp hq same h =
        past_file files Reads before now base AfterBase p (Err s) hp
        (past_file files Reads before now a AfterA q (Err s) hq
        (file_fails files Reads before now b (λ fs r d. ⊥) s (inr (spelled files base p hp, inr (spelled files a q hq, inl refl))) (fails_from files b before then now s same h)))

  -- a refusal of a file decides whatever the programs would
  module _ (next : Tree → Tree → Tree → Decision → Type 0) where
    abbrev pub Reached : Decision → Type 0
    Reached r = IfTold files (λ fs. OnFiles fs base a b (λ p q s. next p q s r) r)

    refused_files : (fs : Files) (r : Decision) → IsRefusedByFiles fs base a b r → OnFiles fs base a b (λ p q s. next p q s r) r
    refused_files fs r (inl h) = inl h
    refused_files fs r (inr (p, hp, inl h)) = inr (p, hp, inl h)
    refused_files fs r (inr (p, hp, inr (q, hq, inl h))) = inr (p, hp, inr (q, hq, inl h))
    refused_files fs r (inr (p, hp, inr (q, hq, inr (s, hs, none)))) = absurd none

    pub files_fail : (before now : ℕ) (s : Stop) → StopIs Refused Reads before now s → StopIs Reached Reads before now s
    files_fail before now s h = decides_map files Reads before now Refused Reached (λ r k fs t. refused_files fs r (k fs t)) (Err s) h

    pub past_files : (before now : ℕ) (v : Versions) (result : Result Report Stop) → IfTold files (λ fs. AreFilesOf fs base a b v) → now ≡ before
        → Merges (next v.base v.a v.b) result → Decides Reached Reads before now result
    past_files before now v result are same h =
        decides_map files Reads before now (λ r. IfTold files (λ fs. next v.base v.a v.b r)) Reached
        (λ r k fs t. (let (hp, hq, hs) = are fs t in inr (v.base, hp, inr (v.a, hq, inr (v.b, hs, k fs t))))) result
        (merges_told files Reads before now (next v.base v.a v.b) result same h)

-- what a state decides that the words tell
module _ (told : Result Values RefusedWord) (state : Values) (is : told ≡ Ok state) (next : Values → Decision → Type 0) where
  pub on_state : (r : Decision) → next state r → OnState told (λ x. next x r) r
  on_state r h = subst (λ (x : Result Values RefusedWord). OnState x (λ y. next y r) r) (sym is) h

  pub of_state : (r : Decision) → OnState told (λ x. next x r) r → next state r
  of_state r h = subst (λ (x : Result Values RefusedWord). OnState x (λ y. next y r) r) is h

-- the same, of a call that may read other files
pub decides_other : (P Q : Decision → Type 0) (reads others : List ℕ → Type 0) → ((r : Decision) → P r → Q r) → ((file : List ℕ) → reads file → others file)
    → (before now : ℕ) (result : Result Report Stop) → Decides P reads before now result → Decides Q others before now result
decides_other P Q reads others f g before now (Ok report) h = (f _ h.0, h.1)
decides_other P Q reads others f g before now (Err (stop.Refused message)) h = (f _ h.0, h.1)
decides_other P Q reads others f g before now (Err (stop.ReadFault message)) (rose, file, is, e) = (rose, file, g file is, e)
decides_other P Q reads others f g before now (Err stop.Memory) h = h

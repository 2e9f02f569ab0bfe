-- What a file's first bytes say of the file.
use Rattle.std.proofs.Common.{◌≡◌, ℕ, ◌+◌, ◌<◌, ◌≤◌, List, length, take, arith, ap, length-take, Option, Err, IfSome, Vec, subst, ◌∙◌, Ok, Result, string_bytes}
use Rattle.std.proofs.lemmas.List.{take_all}
use Rattle.std.specs.Global.{Global}
use Rattle.hpr_terms.specs.declared.limits.TheConstants.{MAX_FILE}
use Rattle.hpr_io.specs.Files.{Files, bytes_of}
use Rattle.hpr_scan.specs.Place.{IsPlace}
use Rattle.hpr_syntax.specs.declared.shape.ShapeError.{ShapeError}
use Rattle.hpr_syntax.specs.Grammar.{Form}
use Rattle.hpr_syntax.specs.Tree.{Tree}
use Rattle.hpr_text.specs.declared.reader.TextError.{TextError}
use Rattle.hpr_text.specs.declared.reader.TextError.TheVariants as text
use Rattle.hpr_text.specs.Answers.{IsText, IsMisshapen, IfSyntax, IfShape}
use Rattle.hpr_edit.specs.declared.command.Command.{Command}
use Rattle.hpr_script.specs.declared.reader.ScriptError.{ScriptError}
use Rattle.hpr_script.specs.declared.reader.ScriptError.TheVariants as script
use Rattle.hpr_script.specs.Answers as answers
use Rattle.hpr_script.specs.ScriptGrammar.{HasScript}
use Rattle.hpr_inputs.specs.ReadsFile.{FailsBy, IsTooLong, Judges, ReadsBy, Refuses, StopsBy}
use Rattle.hpr_inputs.specs.Reads.{IfTold}
use Rattle.hpr_inputs.specs.declared.answer.Stop.{Stop}
use Rattle.hpr_inputs.specs.declared.answer.Stop.TheVariants as stop
use Rattle.hpr_refusals.specs.Refusals.{IsCauseFor, IsRefusedFor, IsRefusedIn, IsRefusedScript}
use Rattle.hpr_refusals.specs.declared.files.Refusal.{Refusal}
use Rattle.hpr_refusals.specs.declared.files.Refusal.TheVariants.{Longer, Syntax, Shape}

at_told : (files : Option Files) (P : Files → Type 0) → IfSome files P → IfTold files P
at_told files P h fs t = let Q : Option Files → Type 0 = λ o. IfSome o P in subst Q t h

-- more than n of the first n + 1 bytes: the file is longer than n
longer : (file front : List ℕ) (n : ℕ) → front ≡ take (n + 1) file → n < length front → n < length file
longer file front n e h = omega (arith, ap length e, length-take (n + 1) file)

-- no more than n of the first n + 1 bytes: they are the whole file
whole : (file front : List ℕ) (n : ℕ) → front ≡ take (n + 1) file → length front ≤ n → front ≡ file
whole file front n e h =
    let l : length file ≤ n + 1 = omega (arith, ap length e, length-take (n + 1) file) in
    e ∙ take_all (n + 1) file l

module _ (files : Option Files) (name front : List ℕ) where
  abbrev pub IsFront : ℕ → Type 0
  IsFront most = IfSome files (λ fs. front ≡ take most (bytes_of fs name))

  told_front : (most : ℕ) → most ≡ MAX_FILE + 1 → IsFront most → IfTold files (λ fs. front ≡ take (MAX_FILE + 1) (bytes_of fs name))
  told_front most is h fs t =
      subst (λ m. front ≡ take m (bytes_of fs name)) is (at_told files (λ gs. front ≡ take most (bytes_of gs name)) h fs t)

  pub longer_file : (most : ℕ) → most ≡ MAX_FILE + 1 → IsFront most → MAX_FILE < length front → IfTold files (λ fs. MAX_FILE < length (bytes_of fs name))
  longer_file most is h l fs t = longer (bytes_of fs name) front MAX_FILE (told_front most is h fs t) l

  abbrev pub IsWhole : Type 0
  IsWhole = IfTold files (λ fs. (front ≡ bytes_of fs name) × (length front ≤ MAX_FILE))

  pub whole_file : (most : ℕ) → most ≡ MAX_FILE + 1 → IsFront most → length front ≤ MAX_FILE → IsWhole
  whole_file most is h l fs t = (whole (bytes_of fs name) front MAX_FILE (told_front most is h fs t) l, l)

  -- what is so of the bytes that were read is so of the file
  pub judged : {A : Type 0} (refused : List ℕ → List ℕ → Type 0) (is : List ℕ → A → Type 0) (read : List ℕ) (before now : ℕ) (result : Result A Stop) → IsWhole → read ≡ front
      → now ≡ before → Judges refused is read result → ReadsBy refused is files name before now result
  judged refused is read before now (Ok a) w e same h = (λ fs t. subst (λ bytes. is bytes a) (e ∙ (w fs t).0) h, same)
  judged refused is read before now (Err (stop.Refused message)) w e same h = (λ fs t. subst (λ bytes. refused bytes (string_bytes message)) (e ∙ (w fs t).0) h, same)
  judged refused is read before now (Err (stop.ReadFault message)) w e same h = absurd h
  judged refused is read before now (Err stop.Memory) w e same h = omega (arith, same)

module _ (files : Option Files) (file : List ℕ) where
  pub too_long : (before now : ℕ) (s : Stop) → IfTold files (λ fs. MAX_FILE < length (bytes_of fs file)) → now ≡ before → Refuses file Longer s
      → FailsBy (IsTooLong file) files file before now s
  too_long before now (stop.Refused message) far same h = (λ fs t. (far fs t, h), same)
  too_long before now (stop.ReadFault message) far same h = absurd h
  too_long before now stop.Memory far same h = omega (arith, same)

-- why bytes of an accepted length are refused
module _ (file bytes : List ℕ) (short : length bytes ≤ MAX_FILE) (s : Stop) where
  stops : (L : List ℕ → Type 0) (misshapen : List ℕ → ShapeError → Type 0) (why : Refusal) (t : Stop) → IsCauseFor L misshapen bytes why → Refuses file why t
      → StopsBy (λ read message. IsRefusedFor (IsCauseFor L misshapen read) file message) bytes t
  stops L misshapen why (stop.Refused message) cause h = (why, cause, h)
  stops L misshapen why (stop.ReadFault message) cause h = absurd h
  stops L misshapen why stop.Memory cause h = tt

  module _ (form : Form) (error : TextError) where
    pub refused_syntax : (place : ℕ) → error ≡ text.Syntax place → IfSyntax {A = Tree} (Err error) (λ n. IsPlace (IsText form) bytes n) → Refuses file (Syntax place) s
        → StopsBy (IsRefusedIn form file) bytes s
    refused_syntax place is h e =
        let at : IsPlace (IsText form) bytes place = subst (λ x. IfSyntax {A = Tree} (Err x) (λ n. IsPlace (IsText form) bytes n)) is h in
        stops (IsText form) (IsMisshapen form) (Syntax place) s (short, at) e

    pub refused_shape : (fails : ShapeError) → error ≡ text.Shape fails → IfShape {A = Tree} (Err error) (λ x. IsMisshapen form bytes x) → Refuses file (Shape fails) s
        → StopsBy (IsRefusedIn form file) bytes s
    refused_shape fails is h e =
        let at : IsMisshapen form bytes fails = subst (λ x. IfShape {A = Tree} (Err x) (λ y. IsMisshapen form bytes y)) is h in
        stops (IsText form) (IsMisshapen form) (Shape fails) s (short, at) e

  pub refused_script : (error : ScriptError) (place : ℕ) → error ≡ script.Syntax place → answers.IfSyntax {A = Vec Command Global} (Err error) (λ n. IsPlace HasScript bytes n)
      → Refuses file (Syntax place) s → StopsBy (IsRefusedScript file) bytes s
  refused_script error place is h e =
      let at : IsPlace HasScript bytes place = subst (λ x. answers.IfSyntax {A = Vec Command Global} (Err x) (λ n. IsPlace HasScript bytes n)) is h in
      stops HasScript (λ read error. ⊥) (Syntax place) s (short, at) e

-- a file that is too long is so whatever it is to spell
pub too_long_fails : (L : List ℕ → Type 0) (misshapen : List ℕ → ShapeError → Type 0) (files : Option Files) (file : List ℕ) (before now : ℕ) (s : Stop)
    → FailsBy (IsTooLong file) files file before now s → FailsBy (λ bytes message. IsRefusedFor (IsCauseFor L misshapen bytes) file message) files file before now s
too_long_fails L misshapen files file before now (stop.Refused message) (h, e) = (λ fs t. (Longer, (h fs t).0, (h fs t).1), e)
too_long_fails L misshapen files file before now (stop.ReadFault message) h = h
too_long_fails L misshapen files file before now stop.Memory h = h

-- Each token that the machine takes has a byte of its own, so that it counts no more parts than there are bytes.
use Rattle.std.proofs.Common.{◌≡◌, ℕ, ◌+◌, ◌≤◌, Bool, List, ◌++◌, length, Some, None, refl, ap, sym, subst, arith}
use Rattle.std.proofs.lemmas.List.{length-append}
use Rattle.hpr_terms.specs.declared.token.Sign.{Sign}
use Rattle.hpr_terms.specs.declared.token.Sign.TheVariants.{Colon, Becomes, Dot, Comma, Semicolon, Open, Close, OpenSquare, CloseSquare, Plus, Minus, Star, Slash, Percent, Equal, Differ, Less, LessEqual, Greater, GreaterEqual}
use Rattle.hpr_terms.specs.declared.token.Token.{Token}
use Rattle.hpr_terms.specs.declared.token.Token.TheVariants.{Word, Name, Number, Mark}
use Rattle.hpr_terms.specs.Tokens.{sign_text, IsToken, Text, ending, token}
use Rattle.hpr_terms.proofs.Facts.{some_inj}
use Rattle.hpr_scan.specs.Steps.{runs}
use Rattle.hpr_scan.proofs.SoundText.{then_of}
use Rattle.hpr_scan.proofs.Words.{small, WordBytes, word_bytes}
use Rattle.hpr_text.specs.declared.state.State.{State}
use Rattle.hpr_text.specs.Machine.{next}
use Rattle.hpr_text.specs.Laws.{is_token_machine}
use Rattle.hpr_text.proofs.Kept.{counts_step}

sign_long : (s : Sign) → 1 ≤ length (sign_text s)
sign_long Colon = omega arith
sign_long Becomes = omega arith
sign_long Dot = omega arith
sign_long Comma = omega arith
sign_long Semicolon = omega arith
sign_long Open = omega arith
sign_long Close = omega arith
sign_long OpenSquare = omega arith
sign_long CloseSquare = omega arith
sign_long Plus = omega arith
sign_long Minus = omega arith
sign_long Star = omega arith
sign_long Slash = omega arith
sign_long Percent = omega arith
sign_long Equal = omega arith
sign_long Differ = omega arith
sign_long Less = omega arith
sign_long LessEqual = omega arith
sign_long Greater = omega arith
sign_long GreaterEqual = omega arith

word_long : (text : List ℕ) → WordBytes text → 1 ≤ length text
word_long text w = omega (arith, ap length w.is)

token_long : (text : List ℕ) (t : Token) (s m : State) → IsToken text t → next None s t ≡ Some m → 1 ≤ length text
token_long text (Word k) s m h e = word_long text (word_bytes text (Word k) h refl tt)
token_long text (Name x) s m h e = word_long text (word_bytes text (Name x) h refl tt)
token_long text (Number n) s m h e = word_long text (word_bytes text (Number n) h refl (small (next None) (is_token_machine None) s m (Number n) e))
token_long text (Mark x) s m h e = subst (λ (w : List ℕ). 1 ≤ length w) (sym h) (sign_long x)

pub text_counts : {w : Bool} {bytes : List ℕ} {ts : List Token} → Text w bytes ts → (s n : State) → runs (next None) s ts ≡ Some n → n.found.count ≤ s.found.count + length bytes
text_counts {bytes = bytes} (ending h) s n e = subst (λ (x : State). x.found.count ≤ s.found.count + length bytes) (some_inj _ _ e) (omega arith)
text_counts (token blanks text {rest = rest} {t = t} {ts = ts} b i a k) s n e =
    let m = then_of (next None s t) (λ (x : State). runs (next None) x ts) n e in
    let long : 1 ≤ length text = token_long text t s m.0 i m.1 in
    let up : m.0.found.count ≤ s.found.count + 1 = (counts_step s t m.0 m.1).1 in
    let more : n.found.count ≤ m.0.found.count + length rest = text_counts k m.0 n m.2 in
    omega (arith, length-append blanks (text ++ rest), length-append text rest, long, up, more)

-- The place of a refusal, and where the bytes lead: from the reader's steps to the whole script.
use Rattle.std.proofs.Common.{◌≡◌, ℕ, zero, suc, ◌+◌, ◌-◌, ◌<◌, ◌≤◌, leb, List, [], ◌∷◌, ◌++◌, length, length-drop, take, drop, get_or, slice_range, slice_index, Bool, true, false, Option, Some, None, Result, Ok, Err, IfOk, refl, sym, ap, subst, ◌∙◌, append_assoc, arith, inl, inr, ◌⊎◌, drop-cons}
use Rattle.std.proofs.Math.Seq.{take-append-add, take-suc}
use Rattle.std.proofs.lemmas.Bool.Decides.{nat_tests}
use Rattle.std.proofs.lemmas.Grind.{common_steps}
use Rattle.std.proofs.lemmas.List.{take-append-drop, take-append-le, take-take, length-take, length-take-le, take_all, get_or-drop}
use Rattle.hpr_terms.specs.declared.token.Sign.{Sign}
use Rattle.hpr_terms.specs.declared.token.Sign.TheVariants as sign
use Rattle.hpr_terms.specs.declared.token.Token.TheVariants.{Mark}
use Rattle.hpr_terms.specs.Names.{is_name_byte}
use Rattle.hpr_terms.specs.Tokens.{is_blank}
use Rattle.hpr_terms.proofs.Facts.{some_inj}
use Rattle.hpr_syntax.specs.declared.rows.Content.{Content}
use Rattle.hpr_scan.specs.declared.scanner.Lex.{Lex}
use Rattle.hpr_scan.specs.declared.scanner.Lex.TheVariants as lex
use Rattle.hpr_scan.specs.declared.scanner.Scanner.{Scanner}
use Rattle.hpr_scan.specs.Place.{IsViable, IsPlace, BeginsWith}
use Rattle.hpr_scan.specs.Steps.{and_then}
use Rattle.hpr_scan.specs.Scanner.{sign_of, longer, after_sign, feed_gap, feed_half, finish, feed, scan, feeds}
use Rattle.hpr_scan.specs.Scanner as scanner
use Rattle.hpr_scan.proofs.Words.{none_some}
use Rattle.hpr_scan.proofs.WholeText.{text_scan}
use Rattle.hpr_scan.proofs.SoundText.{then_of, scan_from}
use Rattle.hpr_scan.proofs.Loop.{feeds_scan, scan_end}
use Rattle.hpr_scan.proofs.Place.{stuck_place}
use Rattle.hpr_text.specs.declared.content.ContentState.TheVariants.{Start}
use Rattle.hpr_text.specs.Contents.{IsContentText, HasContent, IsPlaceFrom}
use Rattle.hpr_script.specs.declared.found.Found.{Found}
use Rattle.hpr_script.specs.declared.reader.ScriptError.{ScriptError}
use Rattle.hpr_script.specs.declared.reader.ScriptError.TheVariants.{Syntax, Memory}
use Rattle.hpr_script.specs.declared.scanner.Begun.{Begun}
use Rattle.hpr_script.specs.declared.scanner.Begun.TheVariants as begun
use Rattle.hpr_script.specs.declared.scanner.Reader.{Reader}
use Rattle.hpr_script.specs.declared.stage.Holder.{Holder}
use Rattle.hpr_script.specs.declared.stage.Stage.{Stage}
use Rattle.hpr_script.specs.declared.stage.Stage.TheVariants.{AtCommand}
use Rattle.hpr_script.specs.declared.stage.Turn.{Turn}
use Rattle.hpr_script.specs.Machine.{State, head, inside, turned, with_command, filled, nothing_found, next, start}
use Rattle.hpr_script.specs.Reading.{reader, inner, gap_next, finished, IsInner, lex_of, scanner_of, IsSound, IsSoundAt}
use Rattle.hpr_script.specs.Answers.{IfSyntax, StepsAt, Ends, Leads}
use Rattle.hpr_script.proofs.MachineLaws.{script_is_token_machine}
use Rattle.hpr_script.proofs.Bytes.{Doomed, inner_some, inner_doomed, gap_doomed, finished_some, finished_doomed, word_ends, word_feeds}
use Rattle.hpr_script.proofs.Completions.{CanEnd, can_end}
use Rattle.hpr_script.proofs.Contents.{content_makes, content_begins}

-- ---- refusals

pub if_syntax : {A : Type 0} (P Q : ℕ → Type 0) → ((n : ℕ) → P n → Q n) → (r : Result A ScriptError) → IfSyntax r P → IfSyntax r Q
if_syntax P Q f (Ok a) h = tt
if_syntax P Q f (Err (Syntax n)) h = f n h
if_syntax P Q f (Err Memory) h = tt

pub if_ok : {A : Type 0} (P Q : A → Type 0) → ((a : A) → P a → Q a) → (r : Result A ScriptError) → IfOk r P → IfOk r Q
if_ok P Q f (Ok a) h = f a h
if_ok P Q f (Err e) h = tt

-- P of the place, where the refusal has one
abbrev pub AtPlace : ScriptError → (ℕ → Type 0) → Type 0
AtPlace (Syntax n) P = P n
AtPlace Memory P = Unit {0}

pub err_is : {A : Type 0} (P : ℕ → Type 0) (r : Result A ScriptError) (e : ScriptError) → r ≡ Err e → AtPlace e P → IfSyntax r P
err_is {A} P r (Syntax n) q h = subst (λ (x : Result A ScriptError). IfSyntax x P) (sym q) h
err_is {A} P r Memory q h = subst (λ (x : Result A ScriptError). IfSyntax x P) (sym q) tt

pub of_err : (A : Type 0) (P Q : ℕ → Type 0) → ((n : ℕ) → P n → Q n) → (e : ScriptError) → IfSyntax {A = A} (Err e) P → AtPlace e Q
of_err A P Q f (Syntax n) h = f n h
of_err A P Q f Memory h = tt

byte_at : (bytes : List ℕ) (n : ℕ) → get_or (drop n bytes) 0 0 ≡ slice_index bytes n
byte_at bytes n = get_or-drop n bytes 0 0 ∙ ap (λ (i : ℕ). get_or bytes i 0) (omega arith)

-- the byte at n cannot stand there
stop_at : (bytes : List ℕ) (n : ℕ) (L : List ℕ → Type 0) → n < length bytes → (more : List ℕ) × L more → ((more : List ℕ) → L (slice_index bytes n ∷ more) → ⊥) → IsPlaceFrom n L bytes n
stop_at bytes n L lt v f =
    (0, omega arith, stuck_place L (drop n bytes) 0 (omega (arith, lt, length-drop n bytes)) v (λ more h. f more (subst (λ (b : ℕ). L (b ∷ more)) (byte_at bytes n) h)))

refused_at : {A : Type 0} (o : Option A) (bytes : List ℕ) (n : ℕ) (l : Lex) (s : State) (e : ScriptError) → StepsAt {A = A} o n (Err e) → n < length bytes → CanEnd l s
    → (o ≡ None → (more : List ℕ) → Doomed l s (slice_index bytes n ∷ more)) → AtPlace e (λ m. IsPlaceFrom n (Ends l s) bytes m)
refused_at o bytes n l s (Syntax m) h lt v f =
    subst (λ (i : ℕ). IsPlaceFrom n (Ends l s) bytes i) (sym h.1) (stop_at bytes n (Ends l s) lt v (λ more k. f h.0 more k.0 k.1))
refused_at o bytes n l s Memory h lt v f = tt

pub inner_refused : (l : Begun) (f : Found) (s : Stage) (bytes : List ℕ) (n : ℕ) (e : ScriptError) → IsSoundAt l s → IsInner l (slice_index bytes n) → n < length bytes
    → StepsAt {A = Reader} (inner l f s (slice_index bytes n)) n (Err e) → AtPlace e (λ m. IsPlaceFrom n (Ends (lex_of l) (head f s)) bytes m)
inner_refused l f s bytes n e sound i lt h =
    refused_at (inner l f s (slice_index bytes n)) bytes n (lex_of l) (head f s) e h lt (can_end l f s sound) (λ none more. inner_doomed l f s (slice_index bytes n) more i none)

pub gap_refused : (f : Found) (s : Stage) (bytes : List ℕ) (n : ℕ) (e : ScriptError) → n < length bytes
    → StepsAt {A = Reader} (gap_next f s (slice_index bytes n)) n (Err e) → AtPlace e (λ m. IsPlaceFrom n (Ends lex.Gap (head f s)) bytes m)
gap_refused f s bytes n e lt h =
    refused_at (gap_next f s (slice_index bytes n)) bytes n lex.Gap (head f s) e h lt (can_end begun.Gap f s tt) (λ none more. gap_doomed f s (slice_index bytes n) more none)

pub word_refused : (f : Found) (s : Stage) (w : List ℕ) (bytes : List ℕ) (n : ℕ) (e : ScriptError) → IsSoundAt (begun.InWord w) s → is_name_byte (slice_index bytes n) ≡ false → n < length bytes
    → StepsAt {A = Found × Turn} (finished f s w) n (Err e) → AtPlace e (λ m. IsPlaceFrom n (Ends (lex.InWord w) (head f s)) bytes m)
word_refused f s w bytes n e sound out lt h =
    refused_at (finished f s w) bytes n (lex.InWord w) (head f s) e h lt (can_end (begun.InWord w) f s sound) (λ none more. finished_doomed f s w (slice_index bytes n) more out none)

-- ---- one byte more

one_byte : (bytes : List ℕ) (n : ℕ) → n < length bytes → slice_range bytes n (n + 1) ≡ slice_index bytes n ∷ []
one_byte bytes n lt = grind (arith, common_steps)

fed_one : (l : Lex) (s : State) (b : ℕ) (a : Scanner State) → feed next l s b ≡ Some a → feeds next l s (b ∷ []) ≡ Some a
unfolding feeds
fed_one l s b a e = rw e refl

leads_one : (l : Lex) (s : State) (bytes : List ℕ) (n : ℕ) (r : Reader) → n < length bytes → (feed next l s (slice_index bytes n) ≡ Some (scanner_of r)) × IsSound r → Leads l s bytes n r (n + 1)
leads_one l s bytes n r lt h = record {
  further = omega arith;
  within = omega (arith, lt);
  sound = h.1;
  feeds = ap (feeds next l s) (one_byte bytes n lt) ∙ fed_one l s (slice_index bytes n) (scanner_of r) h.0;
}

pub inner_leads : (l : Begun) (f : Found) (s : Stage) (bytes : List ℕ) (n : ℕ) (r : Reader) → IsInner l (slice_index bytes n) → n < length bytes → inner l f s (slice_index bytes n) ≡ Some r
    → Leads (lex_of l) (head f s) bytes n r (n + 1)
inner_leads l f s bytes n r i lt e = leads_one (lex_of l) (head f s) bytes n r lt (inner_some l f s (slice_index bytes n) r i e)

pub gap_leads : (f : Found) (s : Stage) (bytes : List ℕ) (n : ℕ) (r : Reader) → n < length bytes → gap_next f s (slice_index bytes n) ≡ Some r → Leads lex.Gap (head f s) bytes n r (n + 1)
gap_leads f s bytes n r lt e = inner_leads begun.Gap f s bytes n r tt lt e

-- ---- behind a word

blank_first : (s : State) (more : List ℕ) → scan next lex.Gap s (32 ∷ more) ≡ scan next lex.Gap s more
unfolding scan feed feed_gap is_blank
blank_first s more = refl

blank_outside : is_name_byte 32 ≡ false
unfolding is_name_byte
blank_outside = refl

word_place : (s n : State) (w : List ℕ) (b : ℕ) (tail : List ℕ) (k : ℕ) → is_name_byte b ≡ false → finish next (lex.InWord w) s ≡ Some n → IsPlace (Ends lex.Gap n) (b ∷ tail) k → IsPlace (Ends (lex.InWord w) s) (b ∷ tail) k
word_place s n w b tail k out e p = record {
  unspelled = λ h. p.unspelled (h.0, sym (word_ends s n w b tail out e) ∙ h.1);
  within = p.within;
  viable = viable_at k p.viable;
  longest = longest_at;
}
  where
    viable_at : (k : ℕ) → IsViable (Ends lex.Gap n) (take k (b ∷ tail)) → IsViable (Ends (lex.InWord w) s) (take k (b ∷ tail))
    viable_at zero v = (32 ∷ v.0, (v.1.0, word_ends s n w 32 v.0 blank_outside e ∙ blank_first n v.0 ∙ v.1.1))
    viable_at (suc k) v = (v.0, (v.1.0, word_ends s n w b (take k tail ++ v.0) out e ∙ v.1.1))

    longest_at : (m : ℕ) → m ≤ length (b ∷ tail) → IsViable (Ends (lex.InWord w) s) (take m (b ∷ tail)) → m ≤ k
    longest_at zero le v = omega arith
    longest_at (suc m) le v = p.longest (suc m) le (v.0, (v.1.0, sym (word_ends s n w b (take m tail ++ v.0) out e) ∙ v.1.1))

pub word_place_from : (f : Found) (s : Stage) (p : Found × Turn) (w : List ℕ) (bytes : List ℕ) (at n : ℕ) → at < length bytes → is_name_byte (slice_index bytes at) ≡ false → finished f s w ≡ Some p
    → IsPlaceFrom at (Ends lex.Gap (turned p.0 p.1)) bytes n → IsPlaceFrom at (Ends (lex.InWord w) (head f s)) bytes n
word_place_from f s p w bytes at n lt out e h =
    let L = Ends lex.Gap (turned p.0 p.1) in
    let same : drop at bytes ≡ slice_index bytes at ∷ drop (suc at) bytes = drop-cons bytes at 0 lt in
    let k = word_place (head f s) (turned p.0 p.1) w (slice_index bytes at) (drop (suc at) bytes) h.0 out (finished_some f s w p e) (subst (λ (x : List ℕ). IsPlace L x h.0) same h.2) in
    (h.0, h.1, subst (λ (x : List ℕ). IsPlace (Ends (lex.InWord w) (head f s)) x h.0) (sym same) k)

take_first : (k b : ℕ) (tail : List ℕ) → 0 < k → take k (b ∷ tail) ≡ b ∷ take (k - 1) tail
take_first k b tail up = grind (arith, common_steps)

pub word_leads : (f : Found) (s : Stage) (p : Found × Turn) (w : List ℕ) (bytes : List ℕ) (at : ℕ) (r : Reader) (end : ℕ) → at < length bytes → is_name_byte (slice_index bytes at) ≡ false → finished f s w ≡ Some p
    → Leads lex.Gap (turned p.0 p.1) bytes at r end → Leads (lex.InWord w) (head f s) bytes at r end
word_leads f s p w bytes at r end lt out e h =
    let b = slice_index bytes at in
    let same : slice_range bytes at end ≡ b ∷ take (end - at - 1) (drop (suc at) bytes) =
    ap (take (end - at)) (drop-cons bytes at 0 lt) ∙ take_first (end - at) b (drop (suc at) bytes) (omega (arith, h.further)) in
    record {
      further = h.further;
      within = h.within;
      sound = h.sound;
      feeds = ap (feeds next (lex.InWord w) (head f s)) same ∙ word_feeds (head f s) (turned p.0 p.1) w b (take (end - at - 1) (drop (suc at) bytes)) out (finished_some f s w p e)
          ∙ ap (feeds next lex.Gap (turned p.0 p.1)) (sym same) ∙ h.feeds;
    }

-- ---- contents

begins_content : (f : Found) (h : Holder) (bytes : List ℕ) → Ends lex.Gap (inside f h Start) bytes → BeginsWith HasContent bytes
begins_content f h bytes e =
    let k = scan_from next script_is_token_machine bytes lex.Gap (inside f h Start) (head e.0 AtCommand) e.1 in
    content_begins f e.0 h bytes k.0 k.1 k.2

ends_content : (f : Found) (h : Holder) (bytes : List ℕ) → HasContent bytes → Ends lex.Gap (inside f h Start) bytes
ends_content f h bytes (c, k) =
    (with_command (filled h c) f, text_scan next script_is_token_machine k.text (inside f h Start) (head (with_command (filled h c) f) AtCommand) (content_makes f h k.tokens c k.spelled))

take_before : (j k : ℕ) (rest more : List ℕ) → k ≤ length rest → j ≤ k → take j (take k rest ++ more) ≡ take j rest
take_before j k rest more le up = take-append-le j (take k rest) more (omega (arith, length-take-le k rest le)) ∙ take-take j k rest up

take_behind : (j k : ℕ) (rest more : List ℕ) → k ≤ length rest → k ≤ j → take j (take k rest ++ more) ≡ take k rest ++ take (j - k) more
take_behind j k rest more le up =
    let whole : j ≡ length (take k rest) + (j - k) = omega (arith, length-take-le k rest le, up) in
    ap (λ (m : ℕ). take m (take k rest ++ more)) whole ∙ take-append-add (take k rest) more (j - k)

content_place : (f : Found) (h : Holder) (rest : List ℕ) (k : ℕ) → IsPlace (BeginsWith HasContent) rest k → IsPlace (Ends lex.Gap (inside f h Start)) rest k
content_place f h rest k p = record {
  unspelled = λ e. p.unspelled (begins_content f h rest e);
  within = p.within;
  viable = viable_at p.viable.0 p.viable.1.0 p.viable.1.1 (leb p.viable.1.0 k) refl;
  longest = λ m le v. p.longest m le (v.0, begins_content f h (take m rest ++ v.0) v.1);
}
  where
    viable_at : (more : List ℕ) (j : ℕ) → HasContent (take j (take k rest ++ more)) → (v : Bool) → leb j k ≡ v → IsViable (Ends lex.Gap (inside f h Start)) (take k rest)
    viable_at more j c true q = absurd (p.unspelled (j, subst HasContent (take_before j k rest more p.within (grind (arith, nat_tests))) c))
    viable_at more j c false q = (take (j - k) more, ends_content f h _ (subst HasContent (take_behind j k rest more p.within (grind (arith, nat_tests))) c))

pub content_refused : (f : Found) (h : Holder) (bytes : List ℕ) (at n : ℕ) → IsPlaceFrom at (BeginsWith HasContent) bytes n → IsPlaceFrom at (Ends lex.Gap (inside f h Start)) bytes n
content_refused f h bytes at n p = (p.0, p.1, content_place f h (drop at bytes) p.0 p.2)

-- ---- a content and its `;`

feeds_first : (l : Lex) (s : State) (b : ℕ) (bs : List ℕ) (k a : Scanner State) → feed next l s b ≡ Some k → feeds next k.lex k.machine bs ≡ Some a → feeds next l s (b ∷ bs) ≡ Some a
unfolding feeds
feeds_first l s b bs k a e q = ap (λ (o : Option (Scanner State)). and_then o (λ m. feeds next m.lex m.machine bs)) e ∙ q

scan_feeds : (bytes : List ℕ) (l : Lex) (s m : State) → scan next l s bytes ≡ Some m → (a : Scanner State) × (feeds next l s bytes ≡ Some a) × (finish next a.lex a.machine ≡ Some m)
unfolding scan feeds
scan_feeds [] l s m e = (scanner.at l s, refl, e)
scan_feeds (b ∷ bs) l s m e =
    let k = then_of (feed next l s b) (λ a. scan next a.lex a.machine bs) m e in
    let r = scan_feeds bs k.0.lex k.0.machine m k.2 in
    (r.0, feeds_first l s b bs k.0 r.0 k.1 r.1, r.2)

feeds_split : (x y : List ℕ) (l : Lex) (s : State) (a : Scanner State) → feeds next l s (x ++ y) ≡ Some a → (m : Scanner State) × (feeds next l s x ≡ Some m) × (feeds next m.lex m.machine y ≡ Some a)
unfolding feeds
feeds_split [] y l s a e = (scanner.at l s, refl, e)
feeds_split (b ∷ x) y l s a e =
    let k = then_of (feed next l s b) (λ a. feeds next a.lex a.machine (x ++ y)) a e in
    let r = feeds_split x y k.0.lex k.0.machine a k.2 in
    (r.0, feeds_first l s b x k.0 r.0 k.1 r.1, r.2)

after_gap : (o : Option State) (a : Scanner State) → after_sign o ≡ Some a → a.lex ≡ lex.Gap
after_gap None a e = absurd (none_some e)
after_gap (Some n) a e = ap (λ (x : Scanner State). x.lex) (sym (some_inj _ _ e))

gap_semicolon : (s : State) (a : Scanner State) → feed_gap next s 59 ≡ Some a → a.lex ≡ lex.Gap
unfolding feed_gap is_blank is_name_byte sign_of
gap_semicolon s a e = after_gap (next s (Mark sign.Semicolon)) a e

no_longer : (x : Sign) → longer x 59 ≡ None
no_longer sign.Colon = refl
no_longer sign.Less = refl
no_longer sign.Greater = refl
no_longer _ = refl

-- behind a `;` nothing has begun, if it stands in no comment
semicolon_fed : (l : Lex) (s : State) (a : Scanner State) → feed next l s 59 ≡ Some a → (a.lex ≡ lex.Gap) ⊎ ((l ≡ lex.Comment) × (scanner.at lex.Comment s ≡ a))
unfolding feed is_name_byte
semicolon_fed lex.Gap s a e = inl (gap_semicolon s a e)
semicolon_fed lex.Comment s a e = inr (refl, some_inj _ _ e)
semicolon_fed (lex.InWord w) s a e = let k = then_of (finish next (lex.InWord w) s) (λ n. feed_gap next n 59) a e in inl (gap_semicolon k.0 a k.2)
semicolon_fed (lex.Half x) s a e =
    let e' : feed_half next None x s 59 ≡ Some a = ap (λ (o : Option Sign). feed_half next o x s 59) (sym (no_longer x)) ∙ e in
    let k = then_of (finish next (lex.Half x) s) (λ n. feed_gap next n 59) a e' in
    inl (gap_semicolon k.0 a k.2)

gap_finish : (l : Lex) (s m : State) → l ≡ lex.Gap → finish next l s ≡ Some m → scanner.at l s ≡ scanner.at lex.Gap m
unfolding finish
gap_finish l s m h e =
    let here : Some s ≡ Some m = ap (λ (x : Lex). finish next x s) (sym h) ∙ e in
    ap (λ (x : Lex). scanner.at x s) h ∙ ap (scanner.at lex.Gap) (some_inj s m here)

comment_finish : (l : Lex) (s : State) → l ≡ lex.Comment → finish next l s ≡ Some s
unfolding finish
comment_finish l s h = ap (λ (x : Lex). finish next x s) h

-- the front before the `;` is no text of a content
abbrev NoneBefore : List ℕ → ℕ → Type 0
NoneBefore rest k = (j : ℕ) → j ≤ k → HasContent (take j rest) → ⊥

none_begins : (rest : List ℕ) (k : ℕ) → NoneBefore rest k → BeginsWith HasContent (take k rest) → ⊥
none_begins rest k none (j, c) = at_test (leb j k) refl
  where
    at_test : (v : Bool) → leb j k ≡ v → ⊥
    at_test true q = let le : j ≤ k = grind (arith, nat_tests) in none j le (subst HasContent (take-take j k rest le) c)
    at_test false q =
        let up : k < j = grind (arith, nat_tests) in
        none k (omega arith) (subst HasContent (take_all j (take k rest) (omega (arith, length-take k rest, up))) c)

one_fed : (l : Lex) (s : State) (a : Scanner State) → feeds next l s (59 ∷ []) ≡ Some a → feed next l s 59 ≡ Some a
unfolding feeds
one_fed l s a e = let k = then_of (feed next l s 59) (λ a. Some (scanner.at a.lex a.machine)) a e in k.1 ∙ k.2

in_comment : (s : State) (a : Scanner State) (m : State) → scanner.at lex.Comment s ≡ a → finish next a.lex a.machine ≡ Some m → Some s ≡ Some m
unfolding finish
in_comment s a m e q = ap (λ (x : Scanner State). finish next x.lex x.machine) e ∙ q

content_fed_at : (f : Found) (h : Holder) (rest : List ℕ) (k : ℕ) (c : Content) → IsContentText (take k rest ++ (59 ∷ [])) c → NoneBefore rest k
    → feeds next lex.Gap (inside f h Start) (take k rest ++ (59 ∷ [])) ≡ Some (scanner.at lex.Gap (head (with_command (filled h c) f) AtCommand))
content_fed_at f h rest k c t none =
    let m = head (with_command (filled h c) f) AtCommand in
    let z = take k rest ++ (59 ∷ []) in
    let run : scan next lex.Gap (inside f h Start) z ≡ Some m = text_scan next script_is_token_machine t.text (inside f h Start) m (content_makes f h t.tokens c t.spelled) in
    let a = scan_feeds z lex.Gap (inside f h Start) m run in
    let p = feeds_split (take k rest) (59 ∷ []) lex.Gap (inside f h Start) a.0 a.1 in
    let q = one_fed p.0.lex p.0.machine a.0 p.2 in
    elim (semicolon_fed p.0.lex p.0.machine a.0 q) [
      | inl e ↦ a.1 ∙ ap Some (gap_finish a.0.lex a.0.machine m e a.2)
      | inr e ↦
          let same : Some p.0.machine ≡ Some m = in_comment p.0.machine a.0 m e.1 a.2 in
          let before : scan next lex.Gap (inside f h Start) (take k rest) ≡ Some m =
          scan_end next (take k rest) (inside f h Start) p.0 p.1 ∙ comment_finish p.0.lex p.0.machine e.0 ∙ same in
          absurd (none_begins rest k none (begins_content f h (take k rest) (with_command (filled h c) f, before)))
    ]

-- what the reader of contents has read leads to the command
pub content_fed : (f : Found) (h : Holder) (bytes : List ℕ) (at place : ℕ) (c : Content) → at ≤ place → place < length bytes → IsContentText (slice_range bytes at (place + 1)) c → slice_index bytes place ≡ 59
    → ((n : ℕ) → n ≤ place → HasContent (slice_range bytes at n) → ⊥)
    → feeds next lex.Gap (inside f h Start) (slice_range bytes at (place + 1)) ≡ Some (scanner.at lex.Gap (head (with_command (filled h c) f) AtCommand))
content_fed f h bytes at place c le lt t semicolon first =
    let rest : List ℕ = drop at bytes in
    let k : ℕ = place - at in
    let short : k < length rest = omega (arith, length-drop at bytes, le, lt) in
    let byte : get_or rest k 0 ≡ 59 = get_or-drop at bytes k 0 ∙ ap (λ (i : ℕ). get_or bytes i 0) (omega (arith, le)) ∙ semicolon in
    let count : place + 1 - at ≡ suc k = omega (arith, le) in
    let whole : slice_range bytes at (place + 1) ≡ take k rest ++ (59 ∷ []) =
    ap (λ (n : ℕ). take n rest) count ∙ take-suc rest k 0 short ∙ ap (λ (b : ℕ). take k rest ++ (b ∷ [])) byte in
    ap (feeds next lex.Gap (inside f h Start)) whole
    ∙ content_fed_at f h rest k c (subst (λ (x : List ℕ). IsContentText x c) whole t) (λ j up g. first (at + j) (omega (arith, up, le)) (subst (λ (n : ℕ). HasContent (take n rest)) (omega arith) g))

-- ---- all bytes

feeds_append : (x y : List ℕ) (l : Lex) (s : State) (a : Scanner State) → feeds next l s x ≡ Some a → feeds next l s (x ++ y) ≡ feeds next a.lex a.machine y
unfolding feeds
feeds_append [] y l s a e = ap (λ (b : Scanner State). feeds next b.lex b.machine y) (some_inj _ _ e)
feeds_append (b ∷ x) y l s a e =
    let k = then_of (feed next l s b) (λ a. feeds next a.lex a.machine x) a e in
    rw k.1 (feeds_append x y k.0.lex k.0.machine a k.2)

take_two : (bytes : List ℕ) (at k : ℕ) → at ≤ length bytes → take (at + k) bytes ≡ take at bytes ++ take k (drop at bytes)
take_two bytes at k le =
    ap (λ (n : ℕ). take (n + k) bytes) (sym (length-take-le at bytes le)) ∙ ap (λ (x : List ℕ). take (length (take at bytes) + k) x) (sym (take-append-drop at bytes))
    ∙ take-append-add (take at bytes) (drop at bytes) k

-- how far a script was read
pub record Reads (bytes : List ℕ) (at : ℕ) (r : Reader) : Type 0 where
  pub within : at ≤ length bytes
  pub sound : IsSound r
  pub feeds : feeds next lex.Gap start (take at bytes) ≡ Some (scanner_of r)

pub reads_more : (bytes : List ℕ) (at e : ℕ) (r n : Reader) → Reads bytes at r → Leads (lex_of r.begun) (head r.found r.stage) bytes at n e → Reads bytes e n
reads_more bytes at e r n h k =
    let whole : take e bytes ≡ take at bytes ++ slice_range bytes at e = ap (λ (i : ℕ). take i bytes) (omega (arith, k.further)) ∙ take_two bytes at (e - at) h.within in
    record {
      within = k.within;
      sound = k.sound;
      feeds = ap (feeds next lex.Gap start) whole ∙ feeds_append (take at bytes) (slice_range bytes at e) lex.Gap start (scanner_of r) h.feeds ∙ k.feeds;
    }

place_after : (bytes : List ℕ) (at k : ℕ) (r : Reader) → Reads bytes at r → IsPlace (Ends (lex_of r.begun) (head r.found r.stage)) (drop at bytes) k → IsPlace (Ends lex.Gap start) bytes (at + k)
place_after bytes at k r h p = record {
  unspelled = λ e. p.unspelled (into (drop at bytes) (subst (Ends lex.Gap start) (sym (take-append-drop at bytes)) e));
  within = omega (arith, p.within, length-drop at bytes, h.within);
  viable = (p.viable.0, subst (Ends lex.Gap start) (sym (front k p.viable.0)) (out (take k (drop at bytes) ++ p.viable.0) p.viable.1));
  longest = λ m le v. at_test m le v (leb m at) refl;
}
  where
    moves : (y : List ℕ) → scan next lex.Gap start (take at bytes ++ y) ≡ scan next (lex_of r.begun) (head r.found r.stage) y
    moves y = feeds_scan next (take at bytes) y lex.Gap start (scanner_of r) h.feeds

    into : (y : List ℕ) → Ends lex.Gap start (take at bytes ++ y) → Ends (lex_of r.begun) (head r.found r.stage) y
    into y e = (e.0, sym (moves y) ∙ e.1)

    out : (y : List ℕ) → Ends (lex_of r.begun) (head r.found r.stage) y → Ends lex.Gap start (take at bytes ++ y)
    out y e = (e.0, moves y ∙ e.1)

    front : (i : ℕ) (more : List ℕ) → take (at + i) bytes ++ more ≡ take at bytes ++ (take i (drop at bytes) ++ more)
    front i more = ap (λ (x : List ℕ). x ++ more) (take_two bytes at i h.within) ∙ append_assoc (take at bytes) (take i (drop at bytes)) more

    at_test : (m : ℕ) → m ≤ length bytes → IsViable (Ends lex.Gap start) (take m bytes) → (v : Bool) → leb m at ≡ v → m ≤ at + k
    at_test m le v true q = grind (arith, nat_tests)
    at_test m le v false q =
        let up : at ≤ m = grind (arith, nat_tests) in
        let whole : take m bytes ++ v.0 ≡ take at bytes ++ (take (m - at) (drop at bytes) ++ v.0) = ap (λ (i : ℕ). take i bytes ++ v.0) (omega (arith, up)) ∙ front (m - at) v.0 in
        let low : m - at ≤ k = p.longest (m - at) (omega (arith, le, length-drop at bytes)) (v.0, into (take (m - at) (drop at bytes) ++ v.0) (subst (Ends lex.Gap start) whole v.1)) in
        omega (arith, low, up)

pub place_from : (bytes : List ℕ) (at n : ℕ) (r : Reader) → Reads bytes at r → IsPlaceFrom at (Ends (lex_of r.begun) (head r.found r.stage)) bytes n → IsPlace (Ends lex.Gap start) bytes n
place_from bytes at n r h p = subst (IsPlace (Ends lex.Gap start) bytes) (sym p.1) (place_after bytes at p.0 r h p.2)

pub reads_none : (bytes : List ℕ) (f : Found) → f ≡ nothing_found → Reads bytes 0 (reader begun.Gap f AtCommand)
unfolding feeds
reads_none bytes f e = record { within = omega arith; sound = tt; feeds = ap (λ (g : Found). Some (scanner.at lex.Gap (head g AtCommand))) (sym e) }

pub inner_refused_at : (r : Reader) (l : Begun) (bytes : List ℕ) (n : ℕ) (e : ScriptError) → r.begun ≡ l → IsSound r → IsInner l (slice_index bytes n) → n < length bytes
    → StepsAt {A = Reader} (inner l r.found r.stage (slice_index bytes n)) n (Err e) → AtPlace e (λ m. IsPlaceFrom n (Ends (lex_of r.begun) (head r.found r.stage)) bytes m)
inner_refused_at r l bytes n e same sound i lt h =
    subst (λ (x : Begun). AtPlace e (λ m. IsPlaceFrom n (Ends (lex_of x) (head r.found r.stage)) bytes m)) (sym same)
    (inner_refused l r.found r.stage bytes n e (subst (λ (x : Begun). IsSoundAt x r.stage) same sound) i lt h)

pub inner_leads_at : (r : Reader) (l : Begun) (bytes : List ℕ) (n : ℕ) (m : Reader) → r.begun ≡ l → IsInner l (slice_index bytes n) → n < length bytes → inner l r.found r.stage (slice_index bytes n) ≡ Some m
    → Leads (lex_of r.begun) (head r.found r.stage) bytes n m (n + 1)
inner_leads_at r l bytes n m same i lt e =
    subst (λ (x : Begun). Leads (lex_of x) (head r.found r.stage) bytes n m (n + 1)) (sym same) (inner_leads l r.found r.stage bytes n m i lt e)

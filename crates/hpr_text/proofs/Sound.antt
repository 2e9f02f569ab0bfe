-- What was read so far, said of each state; so what the machine accepts is spelled.
use Rattle.std.proofs.Common.{◌≡◌, ℕ, zero, suc, ◌+◌, ◌<◌, ◌^◌, List, [], ◌∷◌, ◌++◌, length, Bool, true, false, cond, nat_lt, nat_le, ◌&&◌, Option, Some, None, refl, ap, sym, subst, ◌∙◌, map, append_assoc, arith}
use Rattle.std.proofs.lemmas.Bool.{ltb-true, leb-true}
use Rattle.std.proofs.lemmas.List.{append-nil}
use Rattle.hpr_terms.specs.declared.limits.TheConstants.{MAX_LEVELS}
use Rattle.hpr_terms.specs.declared.tag.Tag.{Tag}
use Rattle.hpr_terms.specs.declared.expr.Expr.{Expr}
use Rattle.hpr_terms.specs.declared.keyword.Keyword.TheVariants.{Program, Issued, End, If, Then, Else, Fi, While, Do, Od, Write, Out}
use Rattle.hpr_terms.specs.declared.token.Sign.TheVariants.{Colon, Becomes, Dot, Comma, Semicolon, Open, Close, OpenSquare, CloseSquare}
use Rattle.hpr_terms.specs.declared.token.Token.{Token}
use Rattle.hpr_terms.specs.declared.token.Token.TheVariants.{Word, Name, Number, Mark}
use Rattle.hpr_terms.proofs.Facts.{and_both, some_inj}
use Rattle.hpr_terms.specs.Names.{stream, IsName, is_name, array_of}
use Rattle.hpr_terms.specs.Term.{operators}
use Rattle.hpr_terms.specs.TermOf.{term_of}
use Rattle.hpr_syntax.specs.Action.{Action, assigns, writes, stores}
use Rattle.hpr_syntax.specs.Body.{Body, done, action, branch, loop}
use Rattle.hpr_syntax.specs.Issued as issued
use Rattle.hpr_syntax.specs.Tree.{Tree}
use Rattle.hpr_syntax.specs.Grammar as grammar
use Rattle.hpr_syntax.specs.Grammar.{Form, IsAuthor, IsSerial, IsTag, IsIssuedPair, Labels, SpellsExpr, SpellsStore, SpellsParts, SpellsPairs, SpellsHeader, SpellsFinal, SpellsNames, SpellsProgram, tag_pair, pair_then, issued_of}
use Rattle.hpr_scan.specs.Steps.{and_then, runs}
use Rattle.hpr_scan.proofs.SoundText.{guard_is}
use Rattle.hpr_scan.proofs.Words.{none_some}
use Rattle.hpr_expressions.specs.declared.expression.Reading.{Reading}
use Rattle.hpr_text.specs.declared.blocks.Around.{Around}
use Rattle.hpr_text.specs.declared.blocks.Begun.{Begun}
use Rattle.hpr_text.specs.declared.blocks.Begun.TheVariants as begun
use Rattle.hpr_text.specs.declared.form.Mode.{Mode}
use Rattle.hpr_text.specs.declared.form.Mode.TheVariants.{Tagged, Untagged}
use Rattle.hpr_text.specs.declared.found.Found.{Found}
use Rattle.hpr_text.specs.declared.state.Purpose.{Purpose}
use Rattle.hpr_text.specs.declared.state.Purpose.TheVariants.{Assign, Test, Guard, Output, Store}
use Rattle.hpr_text.specs.declared.state.Place.{Place}
use Rattle.hpr_text.specs.declared.state.Place.TheVariants.{Start, AfterProgram, BeforePair, AfterPairAuthor, AfterPairColon, AfterPair, AtPart, AfterAuthor, AfterDot, AfterSerial, AfterColon, AfterTarget, InIndex, AfterIndex, InExpression, AfterEnd, AfterOpen, AfterName, AfterNameOpen, AfterFinal, AfterComma, AtEnd}
use Rattle.hpr_text.specs.declared.state.State.{State}
use Rattle.hpr_expressions.specs.Expression.{read, ended, start, start_after, counted_in, can_end}
use Rattle.hpr_expressions.specs.Read.{SpellsAfter}
use Rattle.hpr_text.specs.Forms.{form_of}
use Rattle.hpr_text.specs.Machine.{then_parts, with_number, with_header, with_tag, with_count, tag_raised, given, tag_given, begun_in, first_next, tag_next, header_next, colon_next, with_part, in_then, in_loop, else_in, fi_in, od_in, at_part, ends_parts, with_name, state_at, part_next, goes_on, index_ends, in_index_next, ends_here, expression_next, next_at, next, nothing_found, initially, accepted, accepted_at, tag_read}
use Rattle.hpr_expressions.proofs.SoundExpression.{ReadingIs, start_is, read_is, ended_is, count_is}
use Rattle.hpr_text.proofs.Going.{either_way}
use Rattle.hpr_text.proofs.Parts.{raised_after, tags_read, read_then, tag_raises, parts_then, tally}

-- ---- what is taken

serial_is : (n : ℕ) → (nat_le 1 n && nat_lt n (2 ^ 32)) ≡ true → IsSerial n
serial_is n e = let two = and_both (nat_le 1 n) (nat_lt n (2 ^ 32)) e in (leb-true 1 n two.0, ltb-true n (2 ^ 32) two.1)

-- ---- the header

-- pairs, each with a comma behind it
abbrev pub PairsGo : List Token → List (ℕ × ℕ) → Type 0
PairsGo front ps = (ts : List Token) (qs : List (ℕ × ℕ)) → SpellsPairs ts qs → SpellsPairs (front ++ ts) (ps ++ qs)

-- there is a header only in the tagged form
pub record PairsAre (m : Mode) (f : Found) (ts : List Token) : Type 0 where
  pub tagged : m ≡ Tagged
  pub mode : f.mode ≡ m
  pub no_count : f.count ≡ 0
  pub front : List Token
  pub pairs : List (ℕ × ℕ)
  pub go : PairsGo front pairs
  pub flag : f.has_header ≡ true
  pub numbers : f.issued ≡ issued.raised_by pairs []
  pub no_blocks : f.blocks ≡ []
  pub no_parts : f.parts ≡ done
  pub no_names : f.names ≡ []
  pub tokens : ts ≡ Word Program ∷ Word Issued ∷ front

-- the same, with a last pair that has no comma yet
pub record LastPairIs (m : Mode) (f : Found) (ts : List Token) : Type 0 where
  pub tagged : m ≡ Tagged
  pub mode : f.mode ≡ m
  pub no_count : f.count ≡ 0
  pub front : List Token
  pub pairs : List (ℕ × ℕ)
  pub last : ℕ × ℕ
  pub go : PairsGo front pairs
  pub last_is : IsIssuedPair last
  pub flag : f.has_header ≡ true
  pub numbers : f.issued ≡ issued.raised_by (pairs ++ (last ∷ [])) []
  pub no_blocks : f.blocks ≡ []
  pub no_parts : f.parts ≡ done
  pub no_names : f.names ≡ []
  pub tokens : ts ≡ Word Program ∷ Word Issued ∷ (front ++ pair_then last [])

-- ---- parts

-- how many parts have begun, where n stand before one that has or has not begun
abbrev pub begun_by : ℕ → List Tag → ℕ
begun_by n [] = n
begun_by n (t ∷ ts) = n + 1

abbrev pub label_of : Tag → List Token
label_of t = Number t.author ∷ Mark Dot ∷ Number t.serial ∷ Mark Colon ∷ []

-- a part with a block that has begun: its parts before, its label and its test; outer is said of the blocks around it
pub record AroundIs (m : Form) (outer : ℕ → List Token → Type 0) (l k : ℕ) (r : Around) (begins ends : Token) (ts : List Token) : Type 0 where
  pub from : ℕ
  pub past : List Token
  pub before : List Token
  pub label : List Token
  pub test : List Token
  pub blocks : outer from past
  pub before_is : SpellsParts m (suc l) from k before r.before
  pub label_is : Labels m k label r.tag
  pub test_is : SpellsExpr test r.test
  pub tokens : ts ≡ past ++ (before ++ (label ++ (begins ∷ (test ++ (ends ∷ [])))))

-- the open blocks: l levels are left in the innermost one, and n parts had their tags before its parts
abbrev pub BlocksAre : Form → ℕ → ℕ → List Begun → List Token → Type 0
BlocksAre m l n [] ts = (l ≡ MAX_LEVELS) × (n ≡ 0) × (ts ≡ [])
BlocksAre m l n (begun.Then r ∷ os) ts = (k : ℕ) × (n ≡ k + 1) × AroundIs m (λ j a. BlocksAre m (suc l) j os a) l k r (Word If) (Word Then) ts
BlocksAre m l n (begun.Else r first ∷ os) ts =
    (k : ℕ) × (past : List Token) × (yes : List Token) × SpellsParts m l (k + 1) n yes first
    × AroundIs m (λ j a. BlocksAre m (suc l) j os a) l k r (Word If) (Word Then) past × (ts ≡ past ++ (yes ++ (Word Else ∷ [])))
BlocksAre m l n (begun.Loop r ∷ os) ts = (k : ℕ) × (n ≡ k + 1) × AroundIs m (λ j a. BlocksAre m (suc l) j os a) l k r (Word While) (Word Do) ts

-- the numbers are the header's, or those of the parts' tags and then of these
abbrev pub NumbersAre : Option (List (ℕ × ℕ)) → Found → List Tag → Type 0
NumbersAre None f more = (f.has_header ≡ false) × (f.issued ≡ issued.raised_by (map tag_pair (tags_read f.blocks f.parts more)) [])
NumbersAre (Some ps) f more = (f.has_header ≡ true) × (f.issued ≡ issued.raised_by ps [])

-- more is the tag of a part that has begun
pub record PartsAre (m : Mode) (l : ℕ) (f : Found) (more : List Tag) (ts : List Token) : Type 0 where
  pub header : List Token
  pub pairs : Option (List (ℕ × ℕ))
  pub from : ℕ
  pub to : ℕ
  pub around : List Token
  pub inside : List Token
  pub mode : f.mode ≡ m
  pub counts : f.count ≡ tally m (begun_by to more)
  pub header_is : SpellsHeader (form_of m) header pairs
  pub blocks : BlocksAre (form_of m) l from f.blocks around
  pub spelled : SpellsParts (form_of m) l from to inside f.parts
  pub numbers : NumbersAre pairs f more
  pub no_names : f.names ≡ []
  pub tokens : ts ≡ Word Program ∷ (header ++ (around ++ inside))

-- the tokens since the last part: a front of a tag
pub record SincePart (m : Mode) (f : Found) (more : List Tag) (last : List Token) (ts : List Token) : Type 0 where
  pub tagged : m ≡ Tagged
  pub level : ℕ
  pub past : List Token
  pub parts : PartsAre m level f more past
  pub room : length f.blocks < MAX_LEVELS
  pub tokens : ts ≡ past ++ last

-- the tokens since the last part: a label, and what follows it
pub record BegunIs (m : Mode) (f : Found) (t : Tag) (last : List Token) (ts : List Token) : Type 0 where
  pub level : ℕ
  pub past : List Token
  pub label : List Token
  pub parts : PartsAre m level f (t ∷ []) past
  pub label_is : Labels (form_of m) parts.to label t
  pub room : length f.blocks < MAX_LEVELS
  pub tokens : ts ≡ past ++ (label ++ last)

-- the same where that is a name and `[`, and what follows them; a is the array of the name
pub record ArrayIs (m : Mode) (f : Found) (t : Tag) (a : List ℕ) (last : List Token) (ts : List Token) : Type 0 where
  pub name : List ℕ
  pub name_is : IsName name
  pub array_is : a ≡ array_of name
  pub begun : BegunIs m f t (Name name ∷ Mark OpenSquare ∷ last) ts

-- ---- the end

-- names, each with a comma behind it
abbrev pub NamesGo : List Token → List (List ℕ) → Type 0
NamesGo front xs = (ts : List Token) (y : List ℕ) (ys : List (List ℕ)) → SpellsNames ts (y ∷ ys) → SpellsNames (front ++ ts) (xs ++ (y ∷ ys))

-- the tokens up to the opening bracket
pub record BodyIs (m : Mode) (f : Found) (names : List (List ℕ)) (last : List Token) (ts : List Token) : Type 0 where
  pub header : List Token
  pub pairs : Option (List (ℕ × ℕ))
  pub parts : List Token
  pub header_is : SpellsHeader (form_of m) header pairs
  pub count : ℕ
  pub counts : f.count ≡ tally m count
  pub parts_are : SpellsParts (form_of m) MAX_LEVELS 0 count parts f.parts
  pub numbers : f.issued ≡ issued_of pairs f.parts
  pub names_are : f.names ≡ names
  pub tokens : ts ≡ Word Program ∷ (header ++ (parts ++ (Word End ∷ last)))

-- ---- each place

abbrev pub PurposeIs : Mode → Purpose → Found → Reading → List Token → Type 0
PurposeIs m (Assign t x) f r ts = (e : List Token) × ReadingIs 0 r e × BegunIs m f t (Name x ∷ Mark Becomes ∷ e) ts
PurposeIs m (Test t) f r ts = (e : List Token) × ReadingIs 0 r e × BegunIs m f t (Word If ∷ e) ts
PurposeIs m (Guard t) f r ts = (e : List Token) × ReadingIs 0 r e × BegunIs m f t (Word While ∷ e) ts
PurposeIs m (Output t) f r ts = (e : List Token) × ReadingIs 0 r e × BegunIs m f t (Word Write ∷ e) ts
PurposeIs m (Store t a i) f r ts =
    (index : List Token) × (e : List Token) × SpellsAfter 0 index i × ReadingIs (operators (term_of i)) r e
    × ArrayIs m f t a (index ++ (Mark CloseSquare ∷ Mark Becomes ∷ e)) ts

abbrev pub PlaceIs : Mode → Place → Found → List Token → Type 0
PlaceIs m Start f ts = (f ≡ nothing_found m) × (ts ≡ [])
PlaceIs m AfterProgram f ts = (f ≡ nothing_found m) × (ts ≡ Word Program ∷ [])
PlaceIs m BeforePair f ts = PairsAre m f ts
PlaceIs m (AfterPairAuthor a) f ts = IsAuthor a × ((past : List Token) × PairsAre m f past × (ts ≡ past ++ (Number a ∷ [])))
PlaceIs m (AfterPairColon a) f ts = IsAuthor a × ((past : List Token) × PairsAre m f past × (ts ≡ past ++ (Number a ∷ Mark Colon ∷ [])))
PlaceIs m AfterPair f ts = LastPairIs m f ts
PlaceIs m AtPart f ts = (l : ℕ) × PartsAre m l f [] ts
PlaceIs m (AfterAuthor a) f ts = IsAuthor a × SincePart m f [] (Number a ∷ []) ts
PlaceIs m (AfterDot a) f ts = IsAuthor a × SincePart m f [] (Number a ∷ Mark Dot ∷ []) ts
PlaceIs m (AfterSerial t) f ts = IsTag t × SincePart m f (t ∷ []) (Number t.author ∷ Mark Dot ∷ Number t.serial ∷ []) ts
PlaceIs m (AfterColon t) f ts = BegunIs m f t [] ts
PlaceIs m (AfterTarget t x) f ts = BegunIs m f t (Name x ∷ []) ts
PlaceIs m (InIndex t a r) f ts = (e : List Token) × ReadingIs 0 r e × ArrayIs m f t a e ts
PlaceIs m (AfterIndex t a i k) f ts =
    (index : List Token) × SpellsAfter 0 index i × (k ≡ operators (term_of i)) × ArrayIs m f t a (index ++ (Mark CloseSquare ∷ [])) ts
PlaceIs m (InExpression p r) f ts = PurposeIs m p f r ts
PlaceIs m AfterEnd f ts = BodyIs m f [] [] ts
PlaceIs m AfterOpen f ts = BodyIs m f [] (Mark Open ∷ []) ts
PlaceIs m (AfterName x) f ts =
    (front : List Token) × (xs : List (List ℕ)) × NamesGo front xs × BodyIs m f xs (Mark Open ∷ (front ++ (Name x ∷ []))) ts
PlaceIs m (AfterNameOpen a) f ts =
    (front : List Token) × (xs : List (List ℕ)) × (x : List ℕ) × IsName x × (a ≡ array_of x) × NamesGo front xs
    × BodyIs m f xs (Mark Open ∷ (front ++ (Name x ∷ Mark OpenSquare ∷ []))) ts
PlaceIs m AfterFinal f ts =
    (front : List Token) × (xs : List (List ℕ)) × (last : List Token) × (x : List ℕ) × SpellsFinal last x × NamesGo front xs
    × BodyIs m f (xs ++ (x ∷ [])) (Mark Open ∷ (front ++ last)) ts
PlaceIs m AfterComma f ts = (front : List Token) × (xs : List (List ℕ)) × NamesGo front xs × BodyIs m f xs (Mark Open ∷ front) ts
PlaceIs m AtEnd f ts = (names : List Token) × (xs : List (List ℕ)) × SpellsNames names xs × BodyIs m f xs (Mark Open ∷ (names ++ (Mark Close ∷ []))) ts

abbrev pub StateIs : Mode → State → List Token → Type 0
StateIs m s ts = PlaceIs m s.place s.found ts

to_state : (m : Mode) (f : Found) (p : Place) (ts : List Token) (n : State) → Some (state_at f p) ≡ Some n → PlaceIs m p f ts → StateIs m n ts
to_state m f p ts n e h = subst (λ (s : State). StateIs m s ts) (some_inj _ _ e) h

-- ---- steps in the header

pair_ends : (m : Mode) (f : Found) (a k : ℕ) (ts : List Token) → PlaceIs m (AfterPairColon a) f ts → IsSerial k → LastPairIs m (with_number a k f) (ts ++ (Number k ∷ []))
pair_ends m f a k ts h s =
    let g = h.1.1 in
    record {
      tagged = g.tagged;
      mode = g.mode;
      no_count = g.no_count;
      front = g.front;
      pairs = g.pairs;
      last = (a, k);
      go = g.go;
      last_is = (h.0, s);
      flag = g.flag;
      numbers = ap (issued.raised a k) g.numbers ∙ sym (raised_after g.pairs ((a, k) ∷ []) []);
      no_blocks = g.no_blocks;
      no_parts = g.no_parts;
      no_names = g.no_names;
      tokens = rw (h.1.2, g.tokens) (simp append_assoc);
    }

pair_again : (m : Mode) (f : Found) (ts : List Token) → LastPairIs m f ts → PairsAre m f (ts ++ (Mark Comma ∷ []))
pair_again m f ts h =
    record {
      tagged = h.tagged;
      mode = h.mode;
      no_count = h.no_count;
      front = h.front ++ pair_then h.last (Mark Comma ∷ []);
      pairs = h.pairs ++ (h.last ∷ []);
      go = λ us qs s. rw (append_assoc, append_assoc) (h.go _ _ (grammar.more h.last_is s));
      flag = h.flag;
      numbers = h.numbers;
      no_blocks = h.no_blocks;
      no_parts = h.no_parts;
      no_names = h.no_names;
      tokens = rw h.tokens (simp append_assoc);
    }

-- at the top, with no parts
top_blocks : (m : Form) (bs : List Begun) → bs ≡ [] → BlocksAre m MAX_LEVELS 0 bs []
top_blocks m bs e = subst (λ (x : List Begun). BlocksAre m MAX_LEVELS 0 x []) (sym e) (refl, refl, refl)

no_parts : (m : Form) (l n : ℕ) (b : Body) → b ≡ done → SpellsParts m l n n [] b
no_parts m l n b e = subst (λ (x : Body). SpellsParts m l n n [] x) (sym e) grammar.nothing

no_tally : (m : Mode) → tally m 0 ≡ 0
no_tally Tagged = refl
no_tally (Untagged a) = refl

tagged_header : (m : Mode) {ts : List Token} {ps : List (ℕ × ℕ)} → m ≡ Tagged → SpellsPairs ts ps → SpellsHeader (form_of m) (Word Issued ∷ ts) (Some ps)
tagged_header m {ts} {ps} e s = subst (λ (o : Mode). SpellsHeader (form_of o) (Word Issued ∷ ts) (Some ps)) (sym e) (grammar.pairs s)

header_ends : (m : Mode) (f : Found) (ts : List Token) → LastPairIs m f ts → PartsAre m MAX_LEVELS f [] ts
header_ends m f ts h =
    record {
      header = Word Issued ∷ (h.front ++ pair_then h.last []);
      pairs = Some (h.pairs ++ (h.last ∷ []));
      from = 0;
      to = 0;
      around = [];
      inside = [];
      mode = h.mode;
      counts = h.no_count ∙ sym (no_tally m);
      header_is = tagged_header m h.tagged (h.go _ _ (grammar.one h.last_is));
      blocks = top_blocks (form_of m) f.blocks h.no_blocks;
      spelled = no_parts (form_of m) MAX_LEVELS 0 f.parts h.no_parts;
      numbers = (h.flag, h.numbers);
      no_names = h.no_names;
      tokens = rw (h.tokens, append-nil) refl;
    }

no_header : (m : Mode) (f : Found) (ts : List Token) → PlaceIs m AfterProgram f ts → PartsAre m MAX_LEVELS f [] ts
no_header m f ts h = subst (λ (g : Found). PartsAre m MAX_LEVELS g [] ts) (sym h.0) made
  where
    made : PartsAre m MAX_LEVELS (nothing_found m) [] ts
    made = record {
      header = [];
      pairs = None;
      from = 0;
      to = 0;
      around = [];
      inside = [];
      mode = refl;
      counts = sym (no_tally m);
      header_is = grammar.none;
      blocks = (refl, refl, refl);
      spelled = grammar.nothing;
      numbers = (refl, refl);
      no_names = refl;
      tokens = h.1;
    }

first_pair : (m : Mode) (f : Found) (ts : List Token) → m ≡ Tagged → PlaceIs m AfterProgram f ts → PairsAre m (with_header f) (ts ++ (Word Issued ∷ []))
first_pair m f ts e h = subst (λ (g : Found). PairsAre m (with_header g) (ts ++ (Word Issued ∷ []))) (sym h.0) made
  where
    made : PairsAre m (with_header (nothing_found m)) (ts ++ (Word Issued ∷ []))
    made = record {
      tagged = e;
      mode = refl;
      no_count = refl;
      front = [];
      pairs = [];
      go = λ us qs s. s;
      flag = refl;
      numbers = refl;
      no_blocks = refl;
      no_parts = refl;
      no_names = refl;
      tokens = rw h.1 refl;
    }

header_is : (m : Mode) (f : Found) (o : Mode) (ts : List Token) (n : State) → PlaceIs m AfterProgram f ts → f.mode ≡ o → header_next o f ≡ Some n → StateIs m n (ts ++ (Word Issued ∷ []))
header_is m f Tagged ts n h q e =
    let tagged : m ≡ Tagged = sym (ap (λ (g : Found). g.mode) h.0) ∙ q in
    to_state m (with_header f) BeforePair (ts ++ (Word Issued ∷ [])) n e (first_pair m f ts tagged h)
header_is m f (Untagged a) ts n h q e = absurd (none_some e)

-- ---- numbers

tag_numbers : (pairs : Option (List (ℕ × ℕ))) (f : Found) (t : Tag) → NumbersAre pairs f [] → NumbersAre pairs (with_tag t f) (t ∷ [])
tag_numbers None f t h =
    (h.0, ap (λ b. tag_raised b t f.issued) h.0 ∙ ap (issued.raised t.author t.serial) h.1 ∙ sym (tag_raises f.blocks f.parts t))
tag_numbers (Some ps) f t h = (h.0, ap (λ b. tag_raised b t f.issued) h.0 ∙ h.1)

-- where the same tags were read, the numbers are the same
renumbered : (pairs : Option (List (ℕ × ℕ))) (f g : Found) (more others : List Tag) → f.has_header ≡ g.has_header → f.issued ≡ g.issued
    → tags_read f.blocks f.parts more ≡ tags_read g.blocks g.parts others → NumbersAre pairs f more → NumbersAre pairs g others
renumbered None f g more others a b c h = (sym a ∙ h.0, sym b ∙ h.1 ∙ ap (λ ts. issued.raised_by (map tag_pair ts) []) c)
renumbered (Some ps) f g more others a b c h = (sym a ∙ h.0, sym b ∙ h.1)

body_numbers : (pairs : Option (List (ℕ × ℕ))) (f : Found) → f.blocks ≡ [] → NumbersAre pairs f [] → f.issued ≡ issued_of pairs f.parts
body_numbers None f e h = h.1 ∙ ap (λ bs. issued.raised_by (map tag_pair (tags_read bs f.parts [])) []) e
body_numbers (Some ps) f e h = h.1

-- ---- expressions

begin_is : ReadingIs 0 start []
begin_is = start_is 0 (omega arith)

whole_is : (r : Reading) (e : Expr) (ts : List Token) → ReadingIs 0 r ts → ended r ≡ Some e → SpellsExpr ts e
whole_is r e ts h q = let s = ended_is 0 r e ts h q in (s.0, omega (arith, s.1))

-- ---- steps in parts

level_is : (m : Form) (l n : ℕ) (os : List Begun) (ts : List Token) → BlocksAre m l n os ts → l + length os ≡ MAX_LEVELS
level_is m l n [] ts h = omega (arith, h.0)
level_is m l n (begun.Then r ∷ os) ts h = omega (arith, level_is m (suc l) h.2.from os h.2.past h.2.blocks)
level_is m l n (begun.Else r first ∷ os) ts h = omega (arith, level_is m (suc l) h.4.from os h.4.past h.4.blocks)
level_is m l n (begun.Loop r ∷ os) ts h = omega (arith, level_is m (suc l) h.2.from os h.2.past h.2.blocks)

no_room : {A : Type 0} (m : Mode) (f : Found) (more : List Tag) (ts : List Token) → PartsAre m zero f more ts → length f.blocks < MAX_LEVELS → A
no_room m f more ts h room = absurd (omega (arith, level_is (form_of m) zero h.from f.blocks h.around h.blocks, room))

since : (m : Mode) (f : Found) (more : List Tag) (last : List Token) (t : Token) (ts : List Token) → SincePart m f more last ts → SincePart m f more (last ++ (t ∷ [])) (ts ++ (t ∷ []))
since m f more last t ts h =
    record { tagged = h.tagged; level = h.level; past = h.past; parts = h.parts; room = h.room; tokens = rw h.tokens (append_assoc h.past last (t ∷ [])) }

behind : (m : Mode) (f : Found) (g : Tag) (last : List Token) (t : Token) (ts : List Token) → BegunIs m f g last ts → BegunIs m f g (last ++ (t ∷ [])) (ts ++ (t ∷ []))
behind m f g last t ts h =
    record {
      level = h.level;
      past = h.past;
      label = h.label;
      parts = h.parts;
      label_is = h.label_is;
      room = h.room;
      tokens = rw h.tokens (append_assoc h.past (h.label ++ last) (t ∷ []) ∙ ap (λ x. h.past ++ x) (append_assoc h.label last (t ∷ [])));
    }

array_behind : (m : Mode) (f : Found) (g : Tag) (a : List ℕ) (last : List Token) (t : Token) (ts : List Token) → ArrayIs m f g a last ts → ArrayIs m f g a (last ++ (t ∷ [])) (ts ++ (t ∷ []))
array_behind m f g a last t ts h =
    record { name = h.name; name_is = h.name_is; array_is = h.array_is; begun = behind m f g (Name h.name ∷ Mark OpenSquare ∷ last) t ts h.begun }

-- with one more tag
tag_begins : (m : Mode) (l : ℕ) (f : Found) (t : Tag) (ts : List Token) (n : ℕ) (h : PartsAre m l f [] ts) → n ≡ tally m (h.to + 1) → PartsAre m l (with_tag t (with_count n f)) (t ∷ []) ts
tag_begins m l f t ts n h e =
    record {
      header = h.header;
      pairs = h.pairs;
      from = h.from;
      to = h.to;
      around = h.around;
      inside = h.inside;
      mode = h.mode;
      counts = e;
      header_is = h.header_is;
      blocks = h.blocks;
      spelled = h.spelled;
      numbers = tag_numbers h.pairs (with_count n f) t (renumbered h.pairs f (with_count n f) [] [] refl refl refl h.numbers);
      no_names = h.no_names;
      tokens = h.tokens;
    }

-- a tag that stands in the text
tag_stands : (m : Mode) (l : ℕ) (f : Found) (t : Tag) (ts : List Token) → m ≡ Tagged → PartsAre m l f [] ts → PartsAre m l (with_tag t f) (t ∷ []) ts
tag_stands m l f t ts e h =
    tag_begins m l f t ts f.count h (h.counts ∙ ap (λ (o : Mode). tally o h.to) e ∙ sym (ap (λ (o : Mode). tally o (h.to + 1)) e))

colon_ends : (m : Mode) (f : Found) (t : Tag) (ts : List Token) → IsTag t → SincePart m f (t ∷ []) (Number t.author ∷ Mark Dot ∷ Number t.serial ∷ []) ts → BegunIs m f t [] (ts ++ (Mark Colon ∷ []))
colon_ends m f t ts is h =
    record {
      level = h.level;
      past = h.past;
      label = label_of t;
      parts = h.parts;
      label_is = subst (λ (o : Mode). Labels (form_of o) h.parts.to (label_of t) t) (sym h.tagged) (grammar.tag is);
      room = h.room;
      tokens = rw h.tokens (append_assoc h.past (Number t.author ∷ Mark Dot ∷ Number t.serial ∷ []) (Mark Colon ∷ []));
    }

colon_is : (m : Mode) (f : Found) (g : Tag) (t : Token) (ts : List Token) (n : State) → BegunIs m f g [] ts → colon_next f g t ≡ Some n → StateIs m n (ts ++ (t ∷ []))
colon_is m f g (Name x) ts n h e = to_state m f (AfterTarget g x) (ts ++ (Name x ∷ [])) n e (behind m f g [] (Name x) ts h)
colon_is m f g (Word If) ts n h e = to_state m f (InExpression (Test g) start) (ts ++ (Word If ∷ [])) n e ([], begin_is, behind m f g [] (Word If) ts h)
colon_is m f g (Word While) ts n h e = to_state m f (InExpression (Guard g) start) (ts ++ (Word While ∷ [])) n e ([], begin_is, behind m f g [] (Word While) ts h)
colon_is m f g (Word Write) ts n h e = to_state m f (InExpression (Output g) start) (ts ++ (Word Write ∷ [])) n e ([], begin_is, behind m f g [] (Word Write) ts h)
colon_is m f g t ts n h e = absurd (none_some e)

-- a part that gets its tag from the machine
untagged_begins : (m : Mode) (l a : ℕ) (f : Found) (ts : List Token) → m ≡ Untagged a → PartsAre m l f [] ts → length f.blocks < MAX_LEVELS
    → BegunIs m (given (f.count + 1) (tag_given None a (f.count + 1)) f).0 (tag_given None a (f.count + 1)) [] ts
unfolding tag_begins
untagged_begins m l a f ts e h room =
    let is : f.count ≡ h.to = h.counts ∙ ap (λ (o : Mode). tally o h.to) e in
    let counts : f.count + 1 ≡ tally m (h.to + 1) = ap (λ (k : ℕ). k + 1) is ∙ sym (ap (λ (o : Mode). tally o (h.to + 1)) e) in
    record {
      level = l;
      past = ts;
      label = [];
      parts = tag_begins m l f (tag_given None a (f.count + 1)) ts (f.count + 1) h counts;
      label_is =
          subst (λ (k : ℕ). Labels (form_of m) h.to [] (record { author = a; serial = k + 1 })) (sym is)
          (subst (λ (o : Mode). Labels (form_of o) h.to [] (record { author = a; serial = h.to + 1 })) (sym e) grammar.none);
      room = room;
      tokens = sym (append-nil ts);
    }

first_guard : (b : Bool) (u : Found × Tag) (t : Token) (n : State) → first_next (cond b (Some u) None) t ≡ Some n → (b ≡ true) × (colon_next u.0 u.1 t ≡ Some n)
first_guard true u t n e = (refl, e)
first_guard false u t n e = absurd (none_some e)

first_is : (m : Mode) (l : ℕ) (f : Found) (o : Mode) (t : Token) (ts : List Token) (n : State) → PartsAre m l f [] ts → f.mode ≡ o → first_next (begun_in None o f) t ≡ Some n → StateIs m n (ts ++ (t ∷ []))
first_is m l f Tagged t ts n h q e = absurd (none_some e)
first_is m l f (Untagged a) t ts n h q e =
    let u : Found × Tag = given (f.count + 1) (tag_given None a (f.count + 1)) f in
    let g = first_guard (nat_lt (length f.blocks) MAX_LEVELS) u t n e in
    colon_is m u.0 u.1 t ts n (untagged_begins m l a f ts (sym h.mode ∙ q) h (ltb-true (length f.blocks) MAX_LEVELS g.0)) g.1

tag_is : (m : Mode) (l : ℕ) (f : Found) (o : Mode) (a : ℕ) (ts : List Token) (n : State) → PartsAre m l f [] ts → f.mode ≡ o → tag_next o f a ≡ Some n → StateIs m n (ts ++ (Number a ∷ []))
tag_is m l f Tagged a ts n h q e =
    let g = guard_is (nat_lt (length f.blocks) MAX_LEVELS && nat_lt a (2 ^ 32)) (state_at f (AfterAuthor a)) n e in
    let two = and_both (nat_lt (length f.blocks) MAX_LEVELS) (nat_lt a (2 ^ 32)) g.0 in
    to_state m f (AfterAuthor a) (ts ++ (Number a ∷ [])) n (ap (λ s. Some s) g.1)
    (ltb-true a (2 ^ 32) two.1, record { tagged = sym h.mode ∙ q; level = l; past = ts; parts = h; room = ltb-true (length f.blocks) MAX_LEVELS two.0; tokens = refl })
tag_is m l f (Untagged b) a ts n h q e = absurd (none_some e)

-- a part that does d and has no blocks, with its `;`
action_ends : (m : Mode) (l : ℕ) (f : Found) (t : Tag) (d : Action) (past label said ts : List Token) (p : PartsAre m l f (t ∷ []) past) → length f.blocks < MAX_LEVELS
    → ((k : ℕ) → SpellsParts (form_of m) (suc k) p.to (p.to + 1) (label ++ (said ++ (Mark Semicolon ∷ []))) (action t d done)) → ts ≡ past ++ (label ++ said)
    → (k : ℕ) × PartsAre m k (with_part None t d f) [] (ts ++ (Mark Semicolon ∷ []))
action_ends m zero f t d past label said ts p room is q = no_room m f (t ∷ []) past p room
action_ends m (suc l) f t d past label said ts p room is q = (
  suc l,
  record {
    header = p.header;
    pairs = p.pairs;
    from = p.from;
    to = p.to + 1;
    around = p.around;
    inside = p.inside ++ (label ++ (said ++ (Mark Semicolon ∷ [])));
    mode = p.mode;
    counts = p.counts;
    header_is = p.header_is;
    blocks = p.blocks;
    spelled = parts_then p.spelled (is l);
    numbers = renumbered p.pairs f (with_part None t d f) (t ∷ []) [] refl refl (sym (read_then f.blocks f.parts (action t d done) [])) p.numbers;
    no_names = p.no_names;
    tokens = rw (q, p.tokens) (simp append_assoc);
  },
)

then_begins : (m : Mode) (l : ℕ) (f : Found) (t : Tag) (e : Expr) (past label test ts : List Token) (p : PartsAre m l f (t ∷ []) past) → length f.blocks < MAX_LEVELS → Labels (form_of m) p.to label t
    → SpellsExpr test e → ts ≡ past ++ (label ++ (Word If ∷ test)) → (k : ℕ) × PartsAre m k (in_then t e f) [] (ts ++ (Word Then ∷ []))
then_begins m zero f t e past label test ts p room is v q = no_room m f (t ∷ []) past p room
then_begins m (suc l) f t e past label test ts p room is v q = (
  l,
  record {
    header = p.header;
    pairs = p.pairs;
    from = p.to + 1;
    to = p.to + 1;
    around = p.around ++ (p.inside ++ (label ++ (Word If ∷ (test ++ (Word Then ∷ [])))));
    inside = [];
    mode = p.mode;
    counts = p.counts;
    header_is = p.header_is;
    blocks = (p.to, refl, record { from = p.from; past = p.around; before = p.inside; label = label; test = test; blocks = p.blocks; before_is = p.spelled; label_is = is; test_is = v; tokens = refl });
    spelled = grammar.nothing;
    numbers = renumbered p.pairs f (in_then t e f) (t ∷ []) [] refl refl refl p.numbers;
    no_names = p.no_names;
    tokens = rw (q, p.tokens) (simp (append_assoc, append-nil));
  },
)

loop_begins : (m : Mode) (l : ℕ) (f : Found) (t : Tag) (e : Expr) (past label test ts : List Token) (p : PartsAre m l f (t ∷ []) past) → length f.blocks < MAX_LEVELS → Labels (form_of m) p.to label t
    → SpellsExpr test e → ts ≡ past ++ (label ++ (Word While ∷ test)) → (k : ℕ) × PartsAre m k (in_loop t e f) [] (ts ++ (Word Do ∷ []))
loop_begins m zero f t e past label test ts p room is v q = no_room m f (t ∷ []) past p room
loop_begins m (suc l) f t e past label test ts p room is v q = (
  l,
  record {
    header = p.header;
    pairs = p.pairs;
    from = p.to + 1;
    to = p.to + 1;
    around = p.around ++ (p.inside ++ (label ++ (Word While ∷ (test ++ (Word Do ∷ [])))));
    inside = [];
    mode = p.mode;
    counts = p.counts;
    header_is = p.header_is;
    blocks = (p.to, refl, record { from = p.from; past = p.around; before = p.inside; label = label; test = test; blocks = p.blocks; before_is = p.spelled; label_is = is; test_is = v; tokens = refl });
    spelled = grammar.nothing;
    numbers = renumbered p.pairs f (in_loop t e f) (t ∷ []) [] refl refl refl p.numbers;
    no_names = p.no_names;
    tokens = rw (q, p.tokens) (simp (append_assoc, append-nil));
  },
)

-- ---- steps that end a block

regroup : (past before label test tail : List Token) (begins ends : Token)
    → (past ++ (before ++ (label ++ (begins ∷ (test ++ (ends ∷ [])))))) ++ tail ≡ past ++ (before ++ (label ++ (begins ∷ (test ++ (ends ∷ tail)))))
regroup past before label test tail begins ends = rw (append_assoc, append_assoc, append_assoc, append_assoc) refl

one_more : (header around inside ts : List Token) (last : Token) → ts ≡ Word Program ∷ (header ++ (around ++ inside))
    → ts ++ (last ∷ []) ≡ Word Program ∷ (header ++ (around ++ (inside ++ (last ∷ []))))
one_more header around inside ts last p =
    ap (λ x. x ++ (last ∷ [])) p
    ∙ ap (λ x. Word Program ∷ x) (append_assoc header (around ++ inside) (last ∷ []) ∙ ap (λ x. header ++ x) (append_assoc around inside (last ∷ [])))

closes : (header around inside past before label test ts : List Token) (begins ends last : Token) → ts ≡ Word Program ∷ (header ++ (around ++ inside))
    → around ≡ past ++ (before ++ (label ++ (begins ∷ (test ++ (ends ∷ [])))))
    → ts ++ (last ∷ []) ≡ Word Program ∷ (header ++ (past ++ (before ++ (label ++ (begins ∷ (test ++ (ends ∷ (inside ++ (last ∷ [])))))))))
closes header around inside past before label test ts begins ends last p q =
    one_more header around inside ts last p
    ∙ ap (λ x. Word Program ∷ (header ++ x)) (ap (λ x. x ++ (inside ++ (last ∷ []))) q ∙ regroup past before label test (inside ++ (last ∷ [])) begins ends)

closes_second : (header around inside first way past before label test ts : List Token) (begins ends between last : Token) → ts ≡ Word Program ∷ (header ++ (around ++ inside))
    → around ≡ way ++ (first ++ (between ∷ [])) → way ≡ past ++ (before ++ (label ++ (begins ∷ (test ++ (ends ∷ [])))))
    → ts ++ (last ∷ []) ≡ Word Program ∷ (header ++ (past ++ (before ++ (label ++ (begins ∷ (test ++ (ends ∷ (first ++ (between ∷ (inside ++ (last ∷ [])))))))))))
closes_second header around inside first way past before label test ts begins ends between last p q r =
    one_more header around inside ts last p
    ∙ ap (λ x. Word Program ∷ (header ++ x)) (
    ap (λ x. x ++ (inside ++ (last ∷ []))) q ∙ append_assoc way (first ++ (between ∷ [])) (inside ++ (last ∷ []))
    ∙ ap (λ x. way ++ x) (append_assoc first (between ∷ []) (inside ++ (last ∷ [])))
    ∙ ap (λ x. x ++ (first ++ (between ∷ (inside ++ (last ∷ []))))) r ∙ regroup past before label test (first ++ (between ∷ (inside ++ (last ∷ [])))) begins ends)

ends_body : (header around inside ts : List Token) → ts ≡ Word Program ∷ (header ++ (around ++ inside)) → around ≡ []
    → ts ++ (Word End ∷ []) ≡ Word Program ∷ (header ++ (inside ++ (Word End ∷ [])))
ends_body header around inside ts p q = one_more header around inside ts (Word End) p ∙ ap (λ x. Word Program ∷ (header ++ (x ++ (inside ++ (Word End ∷ []))))) q

else_is : (m : Mode) (bs : List Begun) (l : ℕ) (f g : Found) (ts : List Token) → PartsAre m l f [] ts → f.blocks ≡ bs → else_in bs f ≡ Some g → (k : ℕ) × PartsAre m k g [] (ts ++ (Word Else ∷ []))
else_is m (begun.Then r ∷ os) l f g ts h e q =
    let b = subst (λ (x : List Begun). BlocksAre (form_of m) l h.from x h.around) e h.blocks in
    let goal : Found = record f { blocks = begun.Else r f.parts ∷ os; parts = done } in
    let made : PartsAre m l goal [] (ts ++ (Word Else ∷ [])) = record {
      header = h.header;
      pairs = h.pairs;
      from = h.to;
      to = h.to;
      around = h.around ++ (h.inside ++ (Word Else ∷ []));
      inside = [];
      mode = h.mode;
      counts = h.counts;
      header_is = h.header_is;
      blocks = (b.0, h.around, h.inside, subst (λ (n : ℕ). SpellsParts (form_of m) l n h.to h.inside f.parts) b.1 h.spelled, b.2, refl);
      spelled = grammar.nothing;
      numbers = renumbered h.pairs f goal [] [] refl refl (ap (λ (x : List Begun). tags_read x f.parts []) e) h.numbers;
      no_names = h.no_names;
      tokens = rw h.tokens (simp (append_assoc, append-nil));
    } in
    (l, subst (λ (x : Found). PartsAre m l x [] (ts ++ (Word Else ∷ []))) (some_inj _ _ q) made)
else_is m [] l f g ts h e q = absurd (none_some q)
else_is m (begun.Else r first ∷ os) l f g ts h e q = absurd (none_some q)
else_is m (begun.Loop r ∷ os) l f g ts h e q = absurd (none_some q)

fi_is : (m : Mode) (bs : List Begun) (l : ℕ) (f g : Found) (ts : List Token) → PartsAre m l f [] ts → f.blocks ≡ bs → fi_in None bs f ≡ Some g → (k : ℕ) × PartsAre m k g [] (ts ++ (Word Fi ∷ []))
fi_is m (begun.Then r ∷ os) l f g ts h e q =
    let b = subst (λ (x : List Begun). BlocksAre (form_of m) l h.from x h.around) e h.blocks in
    let inner = subst (λ (n : ℕ). SpellsParts (form_of m) l n h.to h.inside f.parts) b.1 h.spelled in
    let part : Body = branch r.tag r.test f.parts done done in
    let goal : Found = record f { blocks = os; parts = then_parts r.before part } in
    let made : PartsAre m (suc l) goal [] (ts ++ (Word Fi ∷ [])) = record {
      header = h.header;
      pairs = h.pairs;
      from = b.2.from;
      to = h.to;
      around = b.2.past;
      inside = b.2.before ++ (b.2.label ++ (Word If ∷ (b.2.test ++ (Word Then ∷ (h.inside ++ (Word Fi ∷ []))))));
      mode = h.mode;
      counts = h.counts;
      header_is = h.header_is;
      blocks = b.2.blocks;
      spelled = parts_then b.2.before_is (grammar.conditional b.2.label_is b.2.test_is inner grammar.nothing);
      numbers = renumbered h.pairs f goal [] [] refl refl (ap (λ (x : List Begun). tags_read x f.parts []) e ∙ sym (read_then os r.before part [])) h.numbers;
      no_names = h.no_names;
      tokens = closes h.header h.around h.inside b.2.past b.2.before b.2.label b.2.test ts (Word If) (Word Then) (Word Fi) h.tokens b.2.tokens;
    } in
    (suc l, subst (λ (x : Found). PartsAre m (suc l) x [] (ts ++ (Word Fi ∷ []))) (some_inj _ _ q) made)
fi_is m (begun.Else r first ∷ os) l f g ts h e q =
    let b = subst (λ (x : List Begun). BlocksAre (form_of m) l h.from x h.around) e h.blocks in
    let part : Body = branch r.tag r.test first f.parts done in
    let goal : Found = record f { blocks = os; parts = then_parts r.before part } in
    let made : PartsAre m (suc l) goal [] (ts ++ (Word Fi ∷ [])) = record {
      header = h.header;
      pairs = h.pairs;
      from = b.4.from;
      to = h.to;
      around = b.4.past;
      inside = b.4.before ++ (b.4.label ++ (Word If ∷ (b.4.test ++ (Word Then ∷ (b.2 ++ (Word Else ∷ (h.inside ++ (Word Fi ∷ []))))))));
      mode = h.mode;
      counts = h.counts;
      header_is = h.header_is;
      blocks = b.4.blocks;
      spelled = parts_then b.4.before_is (grammar.conditional_else b.4.label_is b.4.test_is b.3 h.spelled grammar.nothing);
      numbers = renumbered h.pairs f goal [] [] refl refl (ap (λ (x : List Begun). tags_read x f.parts []) e ∙ sym (read_then os r.before part [])) h.numbers;
      no_names = h.no_names;
      tokens = closes_second h.header h.around h.inside b.2 b.1 b.4.past b.4.before b.4.label b.4.test ts (Word If) (Word Then) (Word Else) (Word Fi) h.tokens b.5 b.4.tokens;
    } in
    (suc l, subst (λ (x : Found). PartsAre m (suc l) x [] (ts ++ (Word Fi ∷ []))) (some_inj _ _ q) made)
fi_is m [] l f g ts h e q = absurd (none_some q)
fi_is m (begun.Loop r ∷ os) l f g ts h e q = absurd (none_some q)

od_is : (m : Mode) (bs : List Begun) (l : ℕ) (f g : Found) (ts : List Token) → PartsAre m l f [] ts → f.blocks ≡ bs → od_in None bs f ≡ Some g → (k : ℕ) × PartsAre m k g [] (ts ++ (Word Od ∷ []))
od_is m (begun.Loop r ∷ os) l f g ts h e q =
    let b = subst (λ (x : List Begun). BlocksAre (form_of m) l h.from x h.around) e h.blocks in
    let inner = subst (λ (n : ℕ). SpellsParts (form_of m) l n h.to h.inside f.parts) b.1 h.spelled in
    let part : Body = loop r.tag r.test f.parts done in
    let goal : Found = record f { blocks = os; parts = then_parts r.before part } in
    let made : PartsAre m (suc l) goal [] (ts ++ (Word Od ∷ [])) = record {
      header = h.header;
      pairs = h.pairs;
      from = b.2.from;
      to = h.to;
      around = b.2.past;
      inside = b.2.before ++ (b.2.label ++ (Word While ∷ (b.2.test ++ (Word Do ∷ (h.inside ++ (Word Od ∷ []))))));
      mode = h.mode;
      counts = h.counts;
      header_is = h.header_is;
      blocks = b.2.blocks;
      spelled = parts_then b.2.before_is (grammar.while_loop b.2.label_is b.2.test_is inner grammar.nothing);
      numbers = renumbered h.pairs f goal [] [] refl refl (ap (λ (x : List Begun). tags_read x f.parts []) e ∙ sym (read_then os r.before part [])) h.numbers;
      no_names = h.no_names;
      tokens = closes h.header h.around h.inside b.2.past b.2.before b.2.label b.2.test ts (Word While) (Word Do) (Word Od) h.tokens b.2.tokens;
    } in
    (suc l, subst (λ (x : Found). PartsAre m (suc l) x [] (ts ++ (Word Od ∷ []))) (some_inj _ _ q) made)
od_is m [] l f g ts h e q = absurd (none_some q)
od_is m (begun.Then r ∷ os) l f g ts h e q = absurd (none_some q)
od_is m (begun.Else r first ∷ os) l f g ts h e q = absurd (none_some q)

top_parts : (m : Form) (l n k : ℕ) (inside : List Token) (b : Body) → l ≡ MAX_LEVELS → n ≡ 0 → SpellsParts m l n k inside b → SpellsParts m MAX_LEVELS 0 k inside b
top_parts m l n k inside b p q s = subst (λ (j : ℕ). SpellsParts m MAX_LEVELS j k inside b) q (subst (λ (j : ℕ). SpellsParts m j n k inside b) p s)

body_ends : (m : Mode) (l : ℕ) (f : Found) (ts : List Token) → PartsAre m l f [] ts → f.blocks ≡ [] → BodyIs m f [] [] (ts ++ (Word End ∷ []))
body_ends m l f ts h e =
    let b = subst (λ (x : List Begun). BlocksAre (form_of m) l h.from x h.around) e h.blocks in
    record {
      header = h.header;
      pairs = h.pairs;
      parts = h.inside;
      header_is = h.header_is;
      count = h.to;
      counts = h.counts;
      parts_are = top_parts (form_of m) l h.from h.to h.inside f.parts b.0 b.1 h.spelled;
      numbers = body_numbers h.pairs f e h.numbers;
      names_are = h.no_names;
      tokens = ends_body h.header h.around h.inside ts h.tokens b.2;
    }

parts_end_is : (m : Mode) (bs : List Begun) (l : ℕ) (f : Found) (ts : List Token) (n : State) → PartsAre m l f [] ts → f.blocks ≡ bs → ends_parts bs f ≡ Some n → StateIs m n (ts ++ (Word End ∷ []))
parts_end_is m [] l f ts n h e q = to_state m f AfterEnd (ts ++ (Word End ∷ [])) n q (body_ends m l f ts h e)
parts_end_is m (b ∷ bs) l f ts n h e q = absurd (none_some q)

at_part_is : (m : Mode) (o : Option Found) (n : State) (ts : List Token) → at_part o ≡ Some n → ((g : Found) → o ≡ Some g → (k : ℕ) × PartsAre m k g [] ts) → StateIs m n ts
at_part_is m None n ts q go = absurd (none_some q)
at_part_is m (Some g) n ts q go = to_state m g AtPart ts n q (go g refl)

part_is : (m : Mode) (l : ℕ) (f : Found) (t : Token) (ts : List Token) (n : State) → PartsAre m l f [] ts → part_next None f t ≡ Some n → StateIs m n (ts ++ (t ∷ []))
part_is m l f (Number a) ts n h e = tag_is m l f f.mode a ts n h refl e
part_is m l f (Name x) ts n h e = first_is m l f f.mode (Name x) ts n h refl e
part_is m l f (Word If) ts n h e = first_is m l f f.mode (Word If) ts n h refl e
part_is m l f (Word While) ts n h e = first_is m l f f.mode (Word While) ts n h refl e
part_is m l f (Word Write) ts n h e = first_is m l f f.mode (Word Write) ts n h refl e
part_is m l f (Word End) ts n h e = parts_end_is m f.blocks l f ts n h refl e
part_is m l f (Word Else) ts n h e = at_part_is m (else_in f.blocks f) n (ts ++ (Word Else ∷ [])) e (λ g q. else_is m f.blocks l f g ts h refl q)
part_is m l f (Word Fi) ts n h e = at_part_is m (fi_in None f.blocks f) n (ts ++ (Word Fi ∷ [])) e (λ g q. fi_is m f.blocks l f g ts h refl q)
part_is m l f (Word Od) ts n h e = at_part_is m (od_in None f.blocks f) n (ts ++ (Word Od ∷ [])) e (λ g q. od_is m f.blocks l f g ts h refl q)
part_is m l f t ts n h e = absurd (none_some e)

-- ---- steps in expressions

further : (m : Mode) (p : Purpose) (f : Found) (r k : Reading) (t : Token) (ts : List Token) → PurposeIs m p f r ts → read r t ≡ Some k → PurposeIs m p f k (ts ++ (t ∷ []))
further m (Assign g x) f r k t ts h e = (h.0 ++ (t ∷ []), read_is 0 r t k h.0 h.1 e, behind m f g (Name x ∷ Mark Becomes ∷ h.0) t ts h.2)
further m (Test g) f r k t ts h e = (h.0 ++ (t ∷ []), read_is 0 r t k h.0 h.1 e, behind m f g (Word If ∷ h.0) t ts h.2)
further m (Guard g) f r k t ts h e = (h.0 ++ (t ∷ []), read_is 0 r t k h.0 h.1 e, behind m f g (Word While ∷ h.0) t ts h.2)
further m (Output g) f r k t ts h e = (h.0 ++ (t ∷ []), read_is 0 r t k h.0 h.1 e, behind m f g (Word Write ∷ h.0) t ts h.2)
further m (Store g a i) f r k t ts h e = (
  h.0,
  h.1 ++ (t ∷ []),
  h.2,
  read_is (operators (term_of i)) r t k h.1 h.3 e,
  subst (λ (x : List Token). ArrayIs m f g a x (ts ++ (t ∷ []))) (append_assoc h.0 (Mark CloseSquare ∷ Mark Becomes ∷ h.1) (t ∷ []))
      (array_behind m f g a (h.0 ++ (Mark CloseSquare ∷ Mark Becomes ∷ h.1)) t ts h.4),
)

goes_on_is : (m : Mode) (f : Found) (p : Purpose) (r : Reading) (t : Token) (o : Option Reading) (ts : List Token) (n : State) → PurposeIs m p f r ts → read r t ≡ o → goes_on f (InExpression p) o ≡ Some n → StateIs m n (ts ++ (t ∷ []))
goes_on_is m f p r t None ts n h e q = absurd (none_some q)
goes_on_is m f p r t (Some k) ts n h e q = to_state m f (InExpression p k) (ts ++ (t ∷ [])) n q (further m p f r k t ts h e)

value_ends : (m : Mode) (f : Found) (g : Tag) (x : List ℕ) (r : Reading) (o : Option Expr) (ts : List Token) (n : State) → PurposeIs m (Assign g x) f r ts → ended r ≡ o → ends_here None f (Assign g x) o ≡ Some n
    → StateIs m n (ts ++ (Mark Semicolon ∷ []))
value_ends m f g x r None ts n h e q = absurd (none_some q)
value_ends m f g x r (Some v) ts n h e q =
    let s = h.2 in
    to_state m (with_part None g (assigns x v) f) AtPart (ts ++ (Mark Semicolon ∷ [])) n q
    (action_ends m s.level f g (assigns x v) s.past s.label (Name x ∷ Mark Becomes ∷ h.0) ts s.parts s.room (λ k. grammar.assignment {x = x} s.label_is (whole_is r v h.0 h.1 e) grammar.nothing) s.tokens)

write_ends : (m : Mode) (f : Found) (g : Tag) (r : Reading) (o : Option Expr) (ts : List Token) (n : State) → PurposeIs m (Output g) f r ts → ended r ≡ o → ends_here None f (Output g) o ≡ Some n
    → StateIs m n (ts ++ (Mark Semicolon ∷ []))
write_ends m f g r None ts n h e q = absurd (none_some q)
write_ends m f g r (Some v) ts n h e q =
    let s = h.2 in
    to_state m (with_part None g (writes stream v) f) AtPart (ts ++ (Mark Semicolon ∷ [])) n q
    (action_ends m s.level f g (writes stream v) s.past s.label (Word Write ∷ h.0) ts s.parts s.room (λ k. grammar.write s.label_is (whole_is r v h.0 h.1 e) grammar.nothing) s.tokens)

-- a store that is spelled, with its `;`
stored : {form : Form} {n : ℕ} {t : Tag} (k : ℕ) (x a : List ℕ) (i e : Expr) (label index value : List Token) → IsName x → a ≡ array_of x → Labels form n label t → SpellsStore index value i e
    → SpellsParts form (suc k) n (n + 1) (label ++ ((Name x ∷ Mark OpenSquare ∷ (index ++ (Mark CloseSquare ∷ Mark Becomes ∷ value))) ++ (Mark Semicolon ∷ []))) (action t (stores a i e) done)
stored {form} {n} {t} k x a i e label index value name is l both =
    subst (λ (y : List ℕ). SpellsParts form (suc k) n (n + 1) (label ++ ((Name x ∷ Mark OpenSquare ∷ (index ++ (Mark CloseSquare ∷ Mark Becomes ∷ value))) ++ (Mark Semicolon ∷ []))) (action t (stores y i e) done)) (sym is)
    (rw append_assoc (grammar.store x name l both grammar.nothing))

store_ends : (m : Mode) (f : Found) (g : Tag) (a : List ℕ) (i : Expr) (r : Reading) (o : Option Expr) (ts : List Token) (n : State) → PurposeIs m (Store g a i) f r ts → ended r ≡ o → ends_here None f (Store g a i) o ≡ Some n
    → StateIs m n (ts ++ (Mark Semicolon ∷ []))
store_ends m f g a i r None ts n h e q = absurd (none_some q)
store_ends m f g a i r (Some v) ts n h e q =
    let said = ended_is (operators (term_of i)) r v h.1 h.3 e in
    let x : List ℕ = h.4.name in
    let s = h.4.begun in
    to_state m (with_part None g (stores a i v) f) AtPart (ts ++ (Mark Semicolon ∷ [])) n q
    (action_ends m s.level f g (stores a i v) s.past s.label (Name x ∷ Mark OpenSquare ∷ (h.0 ++ (Mark CloseSquare ∷ Mark Becomes ∷ h.1))) ts s.parts s.room
    (λ k. stored k x a i v s.label h.0 h.1 h.4.name_is h.4.array_is s.label_is (h.2.0, said.0, said.1)) s.tokens)

test_ends : (m : Mode) (f : Found) (g : Tag) (r : Reading) (o : Option Expr) (ts : List Token) (n : State) → PurposeIs m (Test g) f r ts → ended r ≡ o → ends_here None f (Test g) o ≡ Some n
    → StateIs m n (ts ++ (Word Then ∷ []))
test_ends m f g r None ts n h e q = absurd (none_some q)
test_ends m f g r (Some v) ts n h e q =
    let s = h.2 in
    to_state m (in_then g v f) AtPart (ts ++ (Word Then ∷ [])) n q (then_begins m s.level f g v s.past s.label h.0 ts s.parts s.room s.label_is (whole_is r v h.0 h.1 e) s.tokens)

guard_ends : (m : Mode) (f : Found) (g : Tag) (r : Reading) (o : Option Expr) (ts : List Token) (n : State) → PurposeIs m (Guard g) f r ts → ended r ≡ o → ends_here None f (Guard g) o ≡ Some n
    → StateIs m n (ts ++ (Word Do ∷ []))
guard_ends m f g r None ts n h e q = absurd (none_some q)
guard_ends m f g r (Some v) ts n h e q =
    let s = h.2 in
    to_state m (in_loop g v f) AtPart (ts ++ (Word Do ∷ [])) n q (loop_begins m s.level f g v s.past s.label h.0 ts s.parts s.room s.label_is (whole_is r v h.0 h.1 e) s.tokens)

expression_is : (m : Mode) (f : Found) (p : Purpose) (r : Reading) (t : Token) (ts : List Token) (n : State) → PurposeIs m p f r ts → expression_next None f p r t ≡ Some n → StateIs m n (ts ++ (t ∷ []))
expression_is m f (Assign g x) r (Mark Semicolon) ts n h e = value_ends m f g x r (ended r) ts n h refl e
expression_is m f (Test g) r (Word Then) ts n h e = test_ends m f g r (ended r) ts n h refl e
expression_is m f (Guard g) r (Word Do) ts n h e = guard_ends m f g r (ended r) ts n h refl e
expression_is m f (Output g) r (Mark Semicolon) ts n h e = write_ends m f g r (ended r) ts n h refl e
expression_is m f (Store g a i) r (Mark Semicolon) ts n h e = store_ends m f g a i r (ended r) ts n h refl e
expression_is m f p r t ts n h e = goes_on_is m f p r t (read r t) ts n h refl e

-- ---- steps in the index of a store

index_goes_is : (m : Mode) (f : Found) (g : Tag) (a : List ℕ) (r : Reading) (t : Token) (o : Option Reading) (ts : List Token) (n : State) → PlaceIs m (InIndex g a r) f ts → read r t ≡ o
    → goes_on f (InIndex g a) o ≡ Some n → StateIs m n (ts ++ (t ∷ []))
index_goes_is m f g a r t None ts n h e q = absurd (none_some q)
index_goes_is m f g a r t (Some k) ts n h e q =
    to_state m f (InIndex g a k) (ts ++ (t ∷ [])) n q (h.0 ++ (t ∷ []), read_is 0 r t k h.0 h.1 e, array_behind m f g a h.0 t ts h.2)

index_ends_is : (m : Mode) (f : Found) (g : Tag) (a : List ℕ) (r : Reading) (o : Option Expr) (ts : List Token) (n : State) → PlaceIs m (InIndex g a r) f ts → ended r ≡ o
    → index_ends f g a (counted_in r) o ≡ Some n → StateIs m n (ts ++ (Mark CloseSquare ∷ []))
index_ends_is m f g a r None ts n h e q = absurd (none_some q)
index_ends_is m f g a r (Some i) ts n h e q =
    to_state m f (AfterIndex g a i (counted_in r)) (ts ++ (Mark CloseSquare ∷ [])) n q
    (h.0, ended_is 0 r i h.0 h.1 e, omega (arith, count_is 0 r i h.0 h.1 e), array_behind m f g a h.0 (Mark CloseSquare) ts h.2)

in_index_is : (m : Mode) (f : Found) (g : Tag) (a : List ℕ) (r : Reading) (t : Token) (ts : List Token) (n : State) → PlaceIs m (InIndex g a r) f ts → in_index_next f g a r t ≡ Some n
    → StateIs m n (ts ++ (t ∷ []))
in_index_is m f g a r (Mark CloseSquare) ts n h e =
    either_way (can_end r) (index_ends f g a (counted_in r) (ended r)) (goes_on f (InIndex g a) (read r (Mark CloseSquare))) n
    (λ q. index_ends_is m f g a r (ended r) ts n h refl q) (λ q. index_goes_is m f g a r (Mark CloseSquare) (read r (Mark CloseSquare)) ts n h refl q) e
in_index_is m f g a r t ts n h e = index_goes_is m f g a r t (read r t) ts n h refl e

-- the number of a store follows its index
number_begins : (m : Mode) (f : Found) (g : Tag) (a : List ℕ) (i : Expr) (k : ℕ) (ts : List Token) → PlaceIs m (AfterIndex g a i k) f ts → PurposeIs m (Store g a i) f (start_after k) (ts ++ (Mark Becomes ∷ []))
number_begins m f g a i k ts h = (
  h.0,
  [],
  h.1,
  subst (λ (j : ℕ). ReadingIs (operators (term_of i)) (start_after j) []) (sym h.2) (start_is (operators (term_of i)) (omega (arith, h.1.1))),
  subst (λ (x : List Token). ArrayIs m f g a x (ts ++ (Mark Becomes ∷ []))) (append_assoc h.0 (Mark CloseSquare ∷ []) (Mark Becomes ∷ []))
      (array_behind m f g a (h.0 ++ (Mark CloseSquare ∷ [])) (Mark Becomes) ts h.3),
)

-- ---- steps at the end

ended_with : (m : Mode) (f : Found) (names : List (List ℕ)) (last : List Token) (t : Token) (ts : List Token) → BodyIs m f names last ts → BodyIs m f names (last ++ (t ∷ [])) (ts ++ (t ∷ []))
ended_with m f names last t ts h =
    record {
      header = h.header;
      pairs = h.pairs;
      parts = h.parts;
      header_is = h.header_is;
      count = h.count;
      counts = h.counts;
      parts_are = h.parts_are;
      numbers = h.numbers;
      names_are = h.names_are;
      tokens = rw h.tokens (simp append_assoc);
    }

named : (m : Mode) (f : Found) (names : List (List ℕ)) (last : List Token) (x : List ℕ) (ts : List Token) → BodyIs m f names last ts → BodyIs m (with_name x f) (names ++ (x ∷ [])) last ts
named m f names last x ts h =
    record {
      header = h.header;
      pairs = h.pairs;
      parts = h.parts;
      header_is = h.header_is;
      count = h.count;
      counts = h.counts;
      parts_are = h.parts_are;
      numbers = h.numbers;
      names_are = ap (λ xs. xs ++ (x ∷ [])) h.names_are;
      tokens = h.tokens;
    }

-- behind the opening bracket no names stand
opened : (m : Mode) (f : Found) (ts : List Token) → PlaceIs m AfterOpen f ts → PlaceIs m AfterComma f ts
opened m f ts h = ([], [], λ us y ys s. s, h)

name_begins : (m : Mode) (f : Found) (x : List ℕ) (ts : List Token) → PlaceIs m AfterComma f ts → PlaceIs m (AfterName x) f (ts ++ (Name x ∷ []))
name_begins m f x ts h = (h.0, h.1, h.2, ended_with m f h.1 (Mark Open ∷ h.0) (Name x) ts h.3)

stream_named : (m : Mode) (f : Found) (ts : List Token) → PlaceIs m AfterComma f ts → PlaceIs m AfterFinal (with_name stream f) (ts ++ (Word Out ∷ []))
stream_named m f ts h =
    (h.0, h.1, Word Out ∷ [], stream, grammar.out, h.2, named m f h.1 (Mark Open ∷ (h.0 ++ (Word Out ∷ []))) stream (ts ++ (Word Out ∷ [])) (ended_with m f h.1 (Mark Open ∷ h.0) (Word Out) ts h.3))

-- a name that no bracket follows is a variable of `end`
plain_named : (m : Mode) (f : Found) (x : List ℕ) (ts : List Token) → PlaceIs m (AfterName x) f ts → PlaceIs m AfterFinal (with_name x f) ts
plain_named m f x ts h = (h.0, h.1, Name x ∷ [], x, grammar.plain, h.2, named m f h.1 (Mark Open ∷ (h.0 ++ (Name x ∷ []))) x ts h.3)

array_opens : (m : Mode) (f : Found) (x : List ℕ) (ts : List Token) → IsName x → PlaceIs m (AfterName x) f ts → PlaceIs m (AfterNameOpen (array_of x)) f (ts ++ (Mark OpenSquare ∷ []))
array_opens m f x ts name h =
    (h.0, h.1, x, name, refl, h.2, rw append_assoc at (ended_with m f h.1 (Mark Open ∷ (h.0 ++ (Name x ∷ []))) (Mark OpenSquare) ts h.3))

array_named : (m : Mode) (f : Found) (a : List ℕ) (ts : List Token) → PlaceIs m (AfterNameOpen a) f ts → PlaceIs m AfterFinal (with_name a f) (ts ++ (Mark CloseSquare ∷ []))
array_named m f a ts h =
    let last : List Token = Name h.2 ∷ Mark OpenSquare ∷ Mark CloseSquare ∷ [] in (
      h.0,
      h.1,
      last,
      a,
      subst (SpellsFinal last) (sym h.4) (grammar.array h.3),
      h.5,
      named m f h.1 (Mark Open ∷ (h.0 ++ last)) a (ts ++ (Mark CloseSquare ∷ []))
          (rw append_assoc at (ended_with m f h.1 (Mark Open ∷ (h.0 ++ (Name h.2 ∷ Mark OpenSquare ∷ []))) (Mark CloseSquare) ts h.6)),
    )

-- a variable of `end` behind such names, with a comma and without
pub names_go : {last : List Token} {x : List ℕ} (front : List Token) (xs : List (List ℕ)) → SpellsFinal last x → NamesGo front xs → NamesGo (front ++ (last ++ (Mark Comma ∷ []))) (xs ++ (x ∷ []))
names_go front xs is go us y ys s = rw (append_assoc, append_assoc, append_assoc) (go _ _ _ (grammar.more is s))

pub names_end : {last : List Token} {x : List ℕ} (front : List Token) (xs : List (List ℕ)) → SpellsFinal last x → NamesGo front xs → SpellsNames (front ++ last) (xs ++ (x ∷ []))
names_end front xs is go = go _ _ _ (grammar.one is)

comma_follows : (m : Mode) (f : Found) (ts : List Token) → PlaceIs m AfterFinal f ts → PlaceIs m AfterComma f (ts ++ (Mark Comma ∷ []))
comma_follows m f ts h = (
  h.0 ++ (h.2 ++ (Mark Comma ∷ [])),
  h.1 ++ (h.3 ∷ []),
  names_go h.0 h.1 h.4 h.5,
  rw append_assoc at (ended_with m f (h.1 ++ (h.3 ∷ [])) (Mark Open ∷ (h.0 ++ h.2)) (Mark Comma) ts h.6),
)

close_follows : (m : Mode) (f : Found) (ts : List Token) → PlaceIs m AfterFinal f ts → PlaceIs m AtEnd f (ts ++ (Mark Close ∷ []))
close_follows m f ts h =
    (h.0 ++ h.2, h.1 ++ (h.3 ∷ []), names_end h.0 h.1 h.4 h.5, ended_with m f (h.1 ++ (h.3 ∷ [])) (Mark Open ∷ (h.0 ++ h.2)) (Mark Close) ts h.6)

-- ---- one step, and many

next_is : (m : Mode) (f : Found) (p : Place) (t : Token) (ts : List Token) (n : State) → PlaceIs m p f ts → next_at None f p t ≡ Some n → StateIs m n (ts ++ (t ∷ []))
next_is m f Start (Word Program) ts n h e = to_state m f AfterProgram (ts ++ (Word Program ∷ [])) n e (h.0, rw h.1 refl)
next_is m f AfterProgram (Word Issued) ts n h e = header_is m f f.mode ts n h refl e
next_is m f AfterProgram t ts n h e = part_is m MAX_LEVELS f t ts n (no_header m f ts h) e
next_is m f BeforePair (Number a) ts n h e =
    let g = guard_is (nat_lt a (2 ^ 32)) (state_at f (AfterPairAuthor a)) n e in
    to_state m f (AfterPairAuthor a) (ts ++ (Number a ∷ [])) n (ap (λ s. Some s) g.1) (ltb-true a (2 ^ 32) g.0, (ts, h, refl))
next_is m f (AfterPairAuthor a) (Mark Colon) ts n h e =
    to_state m f (AfterPairColon a) (ts ++ (Mark Colon ∷ [])) n e (h.0, (h.1.0, h.1.1, rw h.1.2 (append_assoc h.1.0 (Number a ∷ []) (Mark Colon ∷ []))))
next_is m f (AfterPairColon a) (Number k) ts n h e =
    let g = guard_is (nat_le 1 k && nat_lt k (2 ^ 32)) (state_at (with_number a k f) AfterPair) n e in
    to_state m (with_number a k f) AfterPair (ts ++ (Number k ∷ [])) n (ap (λ s. Some s) g.1) (pair_ends m f a k ts h (serial_is k g.0))
next_is m f AfterPair (Mark Comma) ts n h e = to_state m f BeforePair (ts ++ (Mark Comma ∷ [])) n e (pair_again m f ts h)
next_is m f AfterPair t ts n h e = part_is m MAX_LEVELS f t ts n (header_ends m f ts h) e
next_is m f AtPart t ts n h e = part_is m h.0 f t ts n h.1 e
next_is m f (AfterAuthor a) (Mark Dot) ts n h e = to_state m f (AfterDot a) (ts ++ (Mark Dot ∷ [])) n e (h.0, since m f [] (Number a ∷ []) (Mark Dot) ts h.1)
next_is m f (AfterDot a) (Number k) ts n h e =
    let g = guard_is (nat_le 1 k && nat_lt k (2 ^ 32)) (tag_read f (record { author = a; serial = k })) n e in
    let t : Tag = record { author = a; serial = k } in
    let s = since m f [] (Number a ∷ Mark Dot ∷ []) (Number k) ts h.1 in
    to_state m (with_tag t f) (AfterSerial t) (ts ++ (Number k ∷ [])) n (ap (λ s. Some s) g.1) (
      (h.0, serial_is k g.0),
      record { tagged = s.tagged; level = s.level; past = s.past; parts = tag_stands m s.level f t s.past s.tagged s.parts; room = s.room; tokens = s.tokens },
    )
next_is m f (AfterSerial g) (Mark Colon) ts n h e = to_state m f (AfterColon g) (ts ++ (Mark Colon ∷ [])) n e (colon_ends m f g ts h.0 h.1)
next_is m f (AfterColon g) t ts n h e = colon_is m f g t ts n h e
next_is m f (AfterTarget g x) (Mark Becomes) ts n h e =
    to_state m f (InExpression (Assign g x) start) (ts ++ (Mark Becomes ∷ [])) n e ([], begin_is, behind m f g (Name x ∷ []) (Mark Becomes) ts h)
next_is m f (AfterTarget g x) (Mark OpenSquare) ts n h e =
    let q = guard_is (is_name x) (state_at f (InIndex g (array_of x) start)) n e in
    to_state m f (InIndex g (array_of x) start) (ts ++ (Mark OpenSquare ∷ [])) n (ap (λ s. Some s) q.1)
    ([], begin_is, record { name = x; name_is = q.0; array_is = refl; begun = behind m f g (Name x ∷ []) (Mark OpenSquare) ts h })
next_is m f (InIndex g a r) t ts n h e = in_index_is m f g a r t ts n h e
next_is m f (AfterIndex g a i k) (Mark Becomes) ts n h e =
    to_state m f (InExpression (Store g a i) (start_after k)) (ts ++ (Mark Becomes ∷ [])) n e (number_begins m f g a i k ts h)
next_is m f (InExpression p r) t ts n h e = expression_is m f p r t ts n h e
next_is m f AfterEnd (Mark Open) ts n h e = to_state m f AfterOpen (ts ++ (Mark Open ∷ [])) n e (ended_with m f [] [] (Mark Open) ts h)
next_is m f AfterOpen (Name x) ts n h e = to_state m f (AfterName x) (ts ++ (Name x ∷ [])) n e (name_begins m f x ts (opened m f ts h))
next_is m f AfterOpen (Word Out) ts n h e = to_state m (with_name stream f) AfterFinal (ts ++ (Word Out ∷ [])) n e (stream_named m f ts (opened m f ts h))
next_is m f AfterOpen (Mark Close) ts n h e = to_state m f AtEnd (ts ++ (Mark Close ∷ [])) n e ([], [], grammar.none, ended_with m f [] (Mark Open ∷ []) (Mark Close) ts h)
next_is m f (AfterName x) (Mark OpenSquare) ts n h e =
    let q = guard_is (is_name x) (state_at f (AfterNameOpen (array_of x))) n e in
    to_state m f (AfterNameOpen (array_of x)) (ts ++ (Mark OpenSquare ∷ [])) n (ap (λ s. Some s) q.1) (array_opens m f x ts q.0 h)
next_is m f (AfterName x) (Mark Comma) ts n h e =
    to_state m (with_name x f) AfterComma (ts ++ (Mark Comma ∷ [])) n e (comma_follows m (with_name x f) ts (plain_named m f x ts h))
next_is m f (AfterName x) (Mark Close) ts n h e =
    to_state m (with_name x f) AtEnd (ts ++ (Mark Close ∷ [])) n e (close_follows m (with_name x f) ts (plain_named m f x ts h))
next_is m f (AfterNameOpen a) (Mark CloseSquare) ts n h e = to_state m (with_name a f) AfterFinal (ts ++ (Mark CloseSquare ∷ [])) n e (array_named m f a ts h)
next_is m f AfterFinal (Mark Comma) ts n h e = to_state m f AfterComma (ts ++ (Mark Comma ∷ [])) n e (comma_follows m f ts h)
next_is m f AfterFinal (Mark Close) ts n h e = to_state m f AtEnd (ts ++ (Mark Close ∷ [])) n e (close_follows m f ts h)
next_is m f AfterComma (Name x) ts n h e = to_state m f (AfterName x) (ts ++ (Name x ∷ [])) n e (name_begins m f x ts h)
next_is m f AfterComma (Word Out) ts n h e = to_state m (with_name stream f) AfterFinal (ts ++ (Word Out ∷ [])) n e (stream_named m f ts h)
next_is m f p t ts n h e = absurd (none_some e)

step_is : (m : Mode) (s : State) (t : Token) (ts : List Token) (n : State) → StateIs m s ts → next None s t ≡ Some n → StateIs m n (ts ++ (t ∷ []))
unfolding next
step_is m s t ts n h e = next_is m s.found s.place t ts n h e

runs_at : (m : Mode) (s : State) (t : Token) (past ts : List Token) (o : Option State) (n : State) → StateIs m s past → next None s t ≡ o → and_then o (λ k. runs (next None) k ts) ≡ Some n
    → ((k : State) → StateIs m k (past ++ (t ∷ [])) → runs (next None) k ts ≡ Some n → StateIs m n ((past ++ (t ∷ [])) ++ ts)) → StateIs m n (past ++ (t ∷ ts))
runs_at m s t past ts None n h e q go = absurd (none_some q)
runs_at m s t past ts (Some k) n h e q go = rw append_assoc at (go k (step_is m s t past k h e) q)

runs_is : (m : Mode) (s : State) (past ts : List Token) (n : State) → StateIs m s past → runs (next None) s ts ≡ Some n → StateIs m n (past ++ ts)
runs_is m s past [] n h e = rw append-nil (subst (λ (k : State). StateIs m k past) (some_inj _ _ e) h)
runs_is m s past (t ∷ ts) n h e = runs_at m s t past ts (next None s t) n h refl e (λ k i q. runs_is m k (past ++ (t ∷ [])) ts n i q)

-- a tree that is spelled, with as many parts as have begun
abbrev pub IsCounted : Mode → List Token → Found → Tree → Type 0
IsCounted m ts f t = (h : SpellsProgram (form_of m) ts t) × (f.count ≡ tally m h.count)

accepted_is : (m : Mode) (f : Found) (p : Place) (t : Tree) (ts : List Token) → PlaceIs m p f ts → accepted_at f p ≡ Some t → IsCounted m ts f t
accepted_is m f AtEnd t ts h e =
    let b = h.3 in
    let made : SpellsProgram (form_of m) ts (record { issued = f.issued; body = f.parts; finals = f.names }) = record {
      header = b.header;
      pairs = b.pairs;
      parts = b.parts;
      count = b.count;
      names = h.0;
      header_is = b.header_is;
      parts_are = b.parts_are;
      names_are = subst (λ (xs : List (List ℕ)). SpellsNames h.0 xs) (sym b.names_are) h.2;
      issued_is = b.numbers;
      tokens_are = b.tokens;
    } in
    subst (λ (u : Tree). IsCounted m ts f u) (some_inj _ _ e) (made, b.counts)
accepted_is m f p t ts h e = absurd (none_some e)

-- what is accepted is spelled
pub found_spelled : (m : Mode) (ts : List Token) (s : State) (t : Tree) → runs (next None) (initially m) ts ≡ Some s → accepted s ≡ Some t → IsCounted m ts s.found t
found_spelled m ts s t e a = accepted_is m s.found s.place t ts (runs_is m (initially m) [] ts s (refl, refl) e) a

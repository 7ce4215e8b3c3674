-- What a reader answers about a text: a tree and its words, or the fault and a tree whose words begin as the text does.
use Rattle.std.proofs.Common.{◌≡◌, refl, sym, ap, ◌∙◌, ℕ, List, [], ◌∷◌, ◌++◌, append_assoc}
use Rattle.std.proofs.Common.{Ok, Err, Some}
use Rattle.pas_tokens.specs.declared.kinds.Kind.{Kind}
use Rattle.pas_tokens.specs.declared.kinds.Kind.TheVariants as k
use Rattle.pas_tokens.specs.Cutting.{Payload}
use Rattle.pas_tokens.specs.Tokens.{Token}
use Rattle.pas_syntax.specs.Words.{Word}
use Rattle.pas_syntax.specs.Parse.{fault_of, left_out, IsSound, tokens_in}
use Rattle.pas_syntax.specs.inner.Prog.{Why, misplaced, shown, spent, Prog, done, fail, look, skip, bind, Out, run}
use Rattle.pas_syntax.specs.inner.Prog.{head, and_then}
use Rattle.pas_syntax.proofs.ProgLemmas.{run_bind}

-- the words are sound, one by one
abbrev pub AreSound : List Word → Type 0
AreSound [] = Unit {0}
AreSound (w ∷ ws) = IsSound w × AreSound ws

-- what a fault tells of the token that shows it, and of a word of a tree there
abbrev pub ShownBy : Why → Word → Token → Type 0
ShownBy (shown part) w t = (w.token ≡ t) × (fault_of w ≡ Some (left_out part))
ShownBy why w t = Unit {0}

-- a tree that goes on behind the tokens read
pub record Stops {A : Type 0} (P : A → List Word → Type 0) (ts : List Token) (why : Why) (rest : List Token) : Type 0
  where
    pub tree : A
    pub front : List Word
    pub word : Word
    pub behind : List Word
    pub spelled : P tree (front ++ word ∷ behind)
    pub read : ts ≡ tokens_in front ++ rest
    pub sound : AreSound front
    pub shows : ShownBy why word (head rest)

pub record Takes {A : Type 0} (P : A → List Word → Type 0) (E : A → Token
    → Type 0) (ts : List Token) (a : A) (rest : List Token) : Type 0 where
  pub words : List Word
  pub spelled : P a words
  pub read : ts ≡ tokens_in words ++ rest
  pub sound : AreSound words
  pub behind : E a (head rest)

abbrev pub Fails : {A : Type 0} → (A → List Word → Type 0) → List Token → Why → List Token → Type 0
Fails P ts spent rest = Unit {0}
Fails P ts why rest = Stops P ts why rest

abbrev pub Good : {A : Type 0} → (A → List Word → Type 0) → (A → Token → Type 0) → List Token → Out A → Type 0
Good P E ts (Ok p) = Takes P E ts p.0 p.1
Good P E ts (Err e) = Fails P ts e.0 e.1

abbrev pub ReadsAt : Token → {A : Type 0} → (A → List Word → Type 0) → (A → Token → Type 0) → Prog A → Type 0
ReadsAt t P E q = (ts : List Token) → head ts ≡ t → Good P E ts (run q ts)

abbrev pub Reads : {A : Type 0} → (A → List Word → Type 0) → (A → Token → Type 0) → Prog A → Type 0
Reads P E q = (ts : List Token) → Good P E ts (run q ts)

-- the token of this kind that says this, in this line
abbrev pub a_token : Kind → Payload → ℕ → Token
a_token kind payload line = record { kind = kind; payload = payload; line = line }

module _ {A : Type 0} (P : A → List Word → Type 0) (E : A → Token → Type 0) where
  pub reads_look : (f : Kind → Payload → ℕ → Prog A)
      → ((kind : Kind) (payload : Payload) (line : ℕ) → ReadsAt (a_token kind payload line) P E (f kind payload line))
      → Reads P E (look f)
  reads_look f h ts = h (head ts).kind (head ts).payload (head ts).line ts refl

  pub reads_done : (t : Token) (a : A) → P a [] → E a t → ReadsAt t P E (done a)
  reads_done t a p e ts is = record { words = []; spelled = p; read = refl; sound = tt; behind = rw is e }

  pub reads_wrong : (t : Token) (a : A) (w : Word) (behind : List Word) → P a (w ∷ behind)
      → ReadsAt t P E (fail misplaced)
  reads_wrong t a w behind p ts is =
      record { tree = a; front = []; word = w; behind = behind; spelled = p; read = refl; sound = tt; shows = tt }

  pub reads_shown : (t : Token) (part : ℕ) (a : A) (w : Word) (behind : List Word) → P a (w ∷ behind) → w.token ≡ t
      → fault_of w ≡ Some (left_out part) → ReadsAt t P E (fail (shown part))
  reads_shown t part a w behind p is h ts at_t =
      record {
        tree = a;
        front = [];
        word = w;
        behind = behind;
        spelled = p;
        read = refl;
        sound = tt;
        shows = (is ∙ sym at_t, h);
      }

  after_word_stops : (w : Word) (t : Token) (ts : List Token) (why : Why) (rest : List Token) → t ≡ w.token → IsSound w
      → Stops (λ a ws. P a (w ∷ ws)) ts why rest → Stops P (t ∷ ts) why rest
  after_word_stops w t ts why rest is none s =
      record {
        tree = s.tree;
        front = w ∷ s.front;
        word = s.word;
        behind = s.behind;
        spelled = s.spelled;
        read = rw is (ap (λ us. w.token ∷ us) s.read);
        sound = (none, s.sound);
        shows = s.shows;
      }

  after_word_fails : (w : Word) (t : Token) (ts : List Token) (why : Why) (rest : List Token) → t ≡ w.token → IsSound w
      → Fails (λ a ws. P a (w ∷ ws)) ts why rest → Fails P (t ∷ ts) why rest
  after_word_fails w t ts spent rest is none s = tt
  after_word_fails w t ts why rest is none s = after_word_stops w t ts why rest is none s

  after_word : (w : Word) (t : Token) (ts : List Token) (r : Out A) → t ≡ w.token → IsSound w
      → Good (λ a ws. P a (w ∷ ws)) E ts r → Good P E (t ∷ ts) r
  after_word w t ts (Ok p) is none g =
      record {
        words = w ∷ g.words;
        spelled = g.spelled;
        read = rw is (ap (λ us. w.token ∷ us) g.read);
        sound = (none, g.sound);
        behind = g.behind;
      }
  after_word w t ts (Err e) is none g = after_word_fails w t ts e.0 e.1 is none g

  pub reads_skip : (w : Word) (q : Prog A) → (k.EndOfText ≡ w.token.kind → ⊥) → IsSound w
      → Reads (λ a ws. P a (w ∷ ws)) E q → ReadsAt w.token P E (skip q)
  reads_skip w q not none h [] is = absurd (not (ap (λ t. t.kind) is))
  reads_skip w q not none h (t ∷ ts) is = after_word w t ts (run q ts) is none (h ts)

sound_append : (us vs : List Word) → AreSound us → AreSound vs → AreSound (us ++ vs)
sound_append [] vs a b = b
sound_append (u ∷ us) vs a b = (a.0, sound_append us vs a.1 b)

read_append : (us vs : List Word) (ts middle rest : List Token) → ts ≡ tokens_in us ++ middle
    → middle ≡ tokens_in vs ++ rest → ts ≡ tokens_in (us ++ vs) ++ rest
read_append [] vs ts middle rest a b = a ∙ b
read_append (u ∷ us) vs ts middle rest a b =
    a ∙ ap (λ x. u.token ∷ x) (read_append us vs (tokens_in us ++ middle) middle rest refl b)

module _ {A B : Type 0} (P : A → List Word → Type 0) (E : A → Token → Type 0) (R : B → List Word → Type 0) (F : B
    → Token → Type 0) (g : A → Prog B) where
  -- each tree read first goes on as some tree of the whole
  abbrev pub GoesOn : Type 0
  GoesOn = (a : A) (us : List Word) → P a us → (b : B) × (vs : List Word) × R b (us ++ vs)

  stops_first : (ts : List Token) (why : Why) (rest : List Token) → GoesOn → Stops P ts why rest → Stops R ts why rest
  stops_first ts why rest some s =
      let x = some s.tree (s.front ++ s.word ∷ s.behind) s.spelled in
      record {
        tree = x.0;
        front = s.front;
        word = s.word;
        behind = s.behind ++ x.1;
        spelled = rw append_assoc at x.2;
        read = s.read;
        sound = s.sound;
        shows = s.shows;
      }

  fails_first : (ts : List Token) (why : Why) (rest : List Token) → GoesOn → Fails P ts why rest → Fails R ts why rest
  fails_first ts spent rest some s = tt
  fails_first ts why rest some s = stops_first ts why rest some s

  stops_second : (us : List Word) (ts middle : List Token) (why : Why) (rest : List Token) → ts ≡ tokens_in us ++ middle
      → AreSound us → Stops (λ b vs. R b (us ++ vs)) middle why rest → Stops R ts why rest
  stops_second us ts middle why rest read sound s =
      record {
        tree = s.tree;
        front = us ++ s.front;
        word = s.word;
        behind = s.behind;
        spelled = rw append_assoc s.spelled;
        read = read_append us s.front ts middle rest read s.read;
        sound = sound_append us s.front sound s.sound;
        shows = s.shows;
      }

  fails_second : (us : List Word) (ts middle : List Token) (why : Why) (rest : List Token) → ts ≡ tokens_in us ++ middle
      → AreSound us → Fails (λ b vs. R b (us ++ vs)) middle why rest → Fails R ts why rest
  fails_second us ts middle spent rest read sound s = tt
  fails_second us ts middle why rest read sound s = stops_second us ts middle why rest read sound s

  second : (us : List Word) (ts middle : List Token) (r : Out B) → ts ≡ tokens_in us ++ middle → AreSound us
      → Good (λ b vs. R b (us ++ vs)) F middle r → Good R F ts r
  second us ts middle (Ok p) read sound h =
      record {
        words = us ++ h.words;
        spelled = h.spelled;
        read = read_append us h.words ts middle p.1 read h.read;
        sound = sound_append us h.words sound h.sound;
        behind = h.behind;
      }
  second us ts middle (Err e) read sound h = fails_second us ts middle e.0 e.1 read sound h

  pub first_then : (ts : List Token) (r : Out A) → Good P E ts r
      → ((a : A) (us : List Word) (t : Token) → P a us → E a t → ReadsAt t (λ b vs. R b (us ++ vs)) F (g a))
      → GoesOn → Good R F ts (and_then r g)
  first_then ts (Ok p) h next some =
      second h.words ts p.1 (run (g p.0) p.1) h.read h.sound (next p.0 h.words (head p.1) h.spelled h.behind p.1 refl)
  first_then ts (Err e) h next some = fails_first ts e.0 e.1 some h

  pub reads_bind : (q : Prog A) → Reads P E q
      → ((a : A) (us : List Word) (t : Token) → P a us → E a t → ReadsAt t (λ b vs. R b (us ++ vs)) F (g a))
      → GoesOn → Reads R F (bind q g)
  reads_bind q h next some ts = rw (run_bind q g ts) (first_then ts (run q ts) (h ts) next some)

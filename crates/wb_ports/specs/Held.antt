-- What an object holds, where it tells that, and what is said of it before and after a call. This project's own.
use Rattle.std.specs.Prelude.{◌≡◌, ◌⊎◌, ℕ, List, ◌++◌, take, Option, Some, None, ⊤}

-- an object tells both times or neither, and where it tells, the relation holds of what it told and what it tells
abbrev pub WhereTold : {T : Type 0} → (T → T → Type 0) → Option T → Option T → Type 0
WhereTold R None None = ⊤
WhereTold R None (Some now) = ⊥
WhereTold R (Some before) None = ⊥
WhereTold R (Some before) (Some now) = R before now

-- what is held has the piece at its end now, where the object still tells; one that tells told before
abbrev pub Gains : List ℕ → Option (List ℕ) → Option (List ℕ) → Type 0
Gains piece before None = ⊤
Gains piece None (Some now) = ⊥
Gains piece (Some before) (Some now) = now ≡ before ++ piece

-- what a failed write leaves: a prefix of the piece was appended
abbrev pub GainsPrefix : List ℕ → Option (List ℕ) → Option (List ℕ) → Type 0
GainsPrefix piece before now = (n : ℕ) × Gains (take n piece) before now

-- all is as it was
abbrev pub Stays : {T : Type 0} → T → T → Type 0
Stays before now = now ≡ before

-- all is as this function makes it of what it was
abbrev pub Becomes : {T : Type 0} → (T → T) → T → T → Type 0
Becomes change before now = now ≡ change before

-- all is as it was, or as this function makes it of that
abbrev pub StaysOrBecomes : {T : Type 0} → (T → T) → T → T → Type 0
StaysOrBecomes change before now = (now ≡ before) ⊎ (now ≡ change before)

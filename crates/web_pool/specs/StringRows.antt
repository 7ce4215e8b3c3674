-- The definitions of the strings of a pool and of its text, at work on short lists.
use Rattle.std.specs.Prelude.{◌≡◌, [], ◌∷◌, codes, replicate, Ok, Err, refl}
use Rattle.web_pool.specs.Strings.{strings_of, numbered}
use Rattle.web_pool.specs.PoolText.{pool_text}
use Rattle.web_pool.specs.declared.refusals.PoolErr.TheVariants.{TooLong}

-- a string of one byte is no string of the pool, and a string counts where it first appears
pub first_appearances :
    strings_of (codes "ab" ∷ codes "A" ∷ [] ∷ codes "ab" ∷ codes "cd" ∷ []) ≡ codes "ab" ∷ [] ∷ codes "cd" ∷ []
unfolding strings_of
first_appearances = refl

pub code_of_a_byte : numbered (codes "A") [] ≡ Ok (65, [])
unfolding numbered
code_of_a_byte = refl

pub first_string : numbered (codes "ab") [] ≡ Ok (256, codes "ab" ∷ [])
unfolding numbered
first_string = refl

pub empty_string : numbered [] (codes "ab" ∷ []) ≡ Ok (257, codes "ab" ∷ [] ∷ [])
unfolding numbered
empty_string = refl

pub same_string : numbered (codes "ab") (codes "cd" ∷ codes "ab" ∷ []) ≡ Ok (257, codes "cd" ∷ codes "ab" ∷ [])
unfolding numbered
same_string = refl

pub longest_string : numbered (replicate 99 120) [] ≡ Ok (256, replicate 99 120 ∷ [])
unfolding numbered
longest_string = refl

pub too_long_string : numbered (replicate 100 120) [] ≡ Err TooLong
unfolding numbered
too_long_string = refl

pub empty_pool : pool_text [] ≡ []
unfolding pool_text
empty_pool = refl

pub pool_of_two : pool_text (codes "ab" ∷ [] ∷ []) ≡ codes "02ab\n00\n*000000000\n"
unfolding pool_text
pool_of_two = refl

-- The code's `this` in its place: putting twice is putting once, and putting what is there changes
-- nothing.
use Rattle.std.proofs.Common.{◌≡◌, List, Option, Some, None, refl}
use Rattle.grain_value.specs.declared.values.Held.{Held}
use Rattle.grain_means.specs.Worlds.{Place}
use Rattle.grain_means.specs.Simulation.{Binds, puts}
use Rattle.grain_means.specs.lemmas.PlaceLaws.{put-find, put-twice}

-- what is bound, put in its place, is there already
pub puts-bound : (roots : List Held) (place : Option Place) (this : Option Held) →
    Binds roots place this → puts roots place this ≡ roots
puts-bound roots None None b = refl
puts-bound roots (Some p) (Some t) b = put-find roots p t b
puts-bound roots None (Some t) b = absurd b
puts-bound roots (Some p) None b = absurd b

-- only the last put counts
pub puts-twice : (roots : List Held) (place : Option Place) (one two three : Option Held) →
    Binds roots place one → Binds (puts roots place two) place two →
    Binds (puts (puts roots place two) place three) place three →
    puts (puts roots place two) place three ≡ puts roots place three
puts-twice roots None None None None a b c = refl
puts-twice roots (Some p) (Some x) (Some y) (Some z) a b c = put-twice roots p x y.value z.value a
puts-twice roots None None None (Some z) a b c = absurd c
puts-twice roots None None (Some y) three a b c = absurd b
puts-twice roots None (Some x) two three a b c = absurd a
puts-twice roots (Some p) None two three a b c = absurd a
puts-twice roots (Some p) (Some x) None three a b c = absurd b
puts-twice roots (Some p) (Some x) (Some y) None a b c = absurd c

-- outside of all places there is nothing to put
pub puts-nowhere : (roots : List Held) (this : Option Held) → puts roots None this ≡ roots
puts-nowhere roots this = refl

-- The nodes across as numbers: with n cells, a number below n is that cell, and n + a is the image of a.
use Rattle.std.specs.Prelude.{ℕ, ◌+◌, ◌-◌, cond, Some, None, Option, nat_lt}
use Rattle.placement.specs.Across.{Node, cell, image}

abbrev pub node_of : ℕ → ℕ → Node
node_of n u = cond (nat_lt u n) (cell u) (image (u - n))

-- the number of the image of a, by what is told of its mate
abbrev pub image_of : ℕ → ℕ → Option ℕ → ℕ
image_of n a (Some b) = b
image_of n a None = n + a

-- the value of a's image, by what is told of its mate: the mate's, or its own
abbrev pub mirrored : {V : Type 0} → V → (ℕ → V) → Option ℕ → V
mirrored own value (Some b) = value b
mirrored own value None = own

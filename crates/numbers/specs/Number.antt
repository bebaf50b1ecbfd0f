-- The bytes of a number, and what bytes read as.
use Rattle.std.specs.Prelude.{ℕ, zero, suc, ◌+◌, ◌-◌, ◌*◌, ◌/◌, ◌%◌, ◌^◌, ◌<◌, Bool, cond, ◌&&◌, ◌||◌, List, [], ◌∷◌, ◌++◌, ◌==◌, nat_lt}

-- a number that a file can hold: up to 4,294,967,295
abbrev pub Storable : ℕ → Type 0
Storable v = v < 2 ^ 32

abbrev pub EachStorable : List ℕ → Type 0
EachStorable [] = Unit {0}
EachStorable (v ∷ vs) = Storable v × EachStorable vs

-- groups of seven bits, lowest first; each but the last byte has its top bit set, and at most k come before the last
abbrev pub groups : ℕ → ℕ → List ℕ
groups zero v = v ∷ []
groups (suc k) v = cond (nat_lt v 128) (v ∷ []) ((128 + v % 128) ∷ groups k (v / 128))

-- the bytes of a number that a file can hold
abbrev pub encode : ℕ → List ℕ
encode v = groups 4 v

-- the bytes of several numbers, one after another
abbrev pub encode_all : List ℕ → List ℕ
encode_all [] = []
encode_all (v ∷ vs) = encode v ++ encode_all vs

-- what bytes begin with: a number of so many bytes; or they end inside it, or before it; or it has no lawful form
pub data Got : Type 0 where
  got : ℕ → ℕ → Got
  short : Got
  bad : Got

-- a byte with its top bit set, and what the bytes behind it begin with
abbrev pub more : ℕ → Got → Got
more b (got v n) = got (b - 128 + 128 * v) (n + 1)
more b short = short
more b bad = bad

-- a byte that the number cannot have at place i (from 0): zero after the first, or a fifth above 15
abbrev pub unlawful : ℕ → ℕ → Bool
unlawful i b = (nat_lt 0 i && b == 0) || (i == 4 && nat_lt 15 b)

-- the bytes from place i of a number on
abbrev pub tail : ℕ → List ℕ → Got
tail i [] = short
tail i (b ∷ bs) = cond (unlawful i b) bad (cond (nat_lt b 128) (got b 1) (more b (tail (i + 1) bs)))

abbrev pub decode : List ℕ → Got
decode bs = tail 0 bs

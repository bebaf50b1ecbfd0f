-- The layers: what a turned book means, by the order of the book under it.
use Rattle.book.specs.declared.relation.Relation.{Relation}
use Rattle.book.specs.declared.relation.Relation.TheVariants.{Left, Right, Above, Below}
use Rattle.book.specs.Order.{Order}

-- transposed, a is left of b where a was below b, and above b where b was left of a
abbrev pub transpose : Relation → Relation
transpose Left = Below
transpose Right = Above
transpose Above = Right
transpose Below = Left

-- flipped, left and right are exchanged
abbrev pub flip : Relation → Relation
flip Left = Right
flip Right = Left
flip Above = Above
flip Below = Below

-- every relation of an order turned
abbrev pub turned : (Relation → Relation) → Order → Order
turned f o = record { count = o.count; rel = λ a b. f (o.rel a b) }

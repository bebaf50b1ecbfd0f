-- What a set of nodes has, by its binary digits.
use Rattle.std.specs.Prelude.{◌≡◌, ℕ, ◌/◌, ◌%◌, ◌^◌}
use Rattle.graph.specs.declared.node_set.NodeSet.{NodeSet}

-- the most nodes that a graph has: each is a number below this
abbrev pub most_nodes : ℕ
most_nodes = 128

-- u is in the set
abbrev pub Has : NodeSet → ℕ → Type 0
Has s u = s.0 / 2 ^ u % 2 ≡ 1

-- the set of none
abbrev pub none : NodeSet
none = record { 0 = 0 }

-- a number that falls with each member taken away
abbrev pub rank : NodeSet → ℕ
rank s = s.0

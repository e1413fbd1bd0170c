-- The and-inverter graph of aig.rs as a list of nodes. Definitions only.
use Rattle.std.specs.Prelude.{ℕ, ◌*◌, min, max, Bool, false, ◌&&◌, ◌||◌, cond, List, [], ◌∷◌, length, get_or, eqb}
use Rattle.std.proofs.Math.Bool.{xor as xorBool}
use Rattle.std.proofs.Math.Option.{Option, none, some}
use Rattle.model.specs.Literal.{Literal, FALSE, TRUE, node, inverted, negate}
use Rattle.model.specs.Lists.{snoc, position}
use Rattle.model.specs.Literal as Literals
use Rattle.model.specs.Lists as Lists

-- a node; a variable is named by a number, which `variable` takes from its place
pub data Node : Type 0 where
  Constant : Node
  Variable : ℕ → Node
  And : Literal → Literal → Node

-- the nodes in order of their numbers
abbrev pub Aig : Type 0
Aig = List Node

-- a graph and a literal of it: what each operation returns
pub record Built : Type 0 where
  pub aig : Aig
  pub literal : Literal

-- the graph with node 0 alone
unfoldable pub new : Aig
new = Constant ∷ []

-- a new variable at the end of the graph
unfoldable pub variable : Aig → Built
variable g = record { aig = snoc g (Variable (length g)); literal = length g * 2 }

-- whether a node is the conjunction of lhs and rhs, in this order
unfoldable pub is_and : Literal → Literal → Node → Bool
is_and lhs rhs Constant = false
is_and lhs rhs (Variable v) = false
is_and lhs rhs (And a b) = eqb lhs a && eqb rhs b

-- the node found at i, or one more node at the end
unfoldable pub and_found : Aig → Literal → Literal → Option ℕ → Built
and_found g lhs rhs (some i) = record { aig = g; literal = i * 2 }
and_found g lhs rhs none = record { aig = snoc g (And lhs rhs); literal = length g * 2 }

-- what `and` answers without a node: the tests in aig.rs's order
unfoldable pub and_shortcut : Literal → Literal → Option Literal
and_shortcut lhs rhs =
    cond (eqb lhs FALSE || eqb rhs FALSE) (some FALSE)
    (cond (eqb lhs TRUE) (some rhs)
    (cond (eqb rhs TRUE || eqb lhs rhs) (some lhs)
    (cond (eqb lhs (negate rhs)) (some FALSE) none)))

-- the shortcut's answer, or the node of the ordered pair, looked up first
unfoldable pub and_unless : Aig → Literal → Literal → Option Literal → Built
and_unless g lhs rhs (some l) = record { aig = g; literal = l }
and_unless g lhs rhs none = and_found g lhs rhs (position (is_and lhs rhs) g)

-- the conjunction
unfoldable pub and : Aig → Literal → Literal → Built
and g lhs rhs = and_unless g (min lhs rhs) (max lhs rhs) (and_shortcut lhs rhs)

-- the disjunction
unfoldable pub or : Aig → Literal → Literal → Built
or g lhs rhs = let m = and g (negate lhs) (negate rhs) in record { aig = m.aig; literal = negate m.literal }

-- what `xor` answers without a node
unfoldable pub xor_shortcut : Literal → Literal → Option Literal
xor_shortcut lhs rhs = cond (eqb lhs rhs) (some FALSE) (cond (eqb lhs (negate rhs)) (some TRUE) none)

-- the shortcut's answer, or lhs_only or rhs_only
unfoldable pub xor_unless : Aig → Literal → Literal → Option Literal → Built
xor_unless g lhs rhs (some l) = record { aig = g; literal = l }
xor_unless g lhs rhs none =
    let lhs_only = and g lhs (negate rhs) in
    let rhs_only = and lhs_only.aig (negate lhs) rhs in
    or rhs_only.aig lhs_only.literal rhs_only.literal

-- the exclusive or
unfoldable pub xor : Aig → Literal → Literal → Built
xor g lhs rhs = xor_unless g lhs rhs (xor_shortcut lhs rhs)

-- what `mux` answers without a node: the tests in aig.rs's order
unfoldable pub mux_shortcut : Literal → Literal → Literal → Option Literal
mux_shortcut condition then_value else_value =
    cond (eqb condition TRUE) (some then_value)
    (cond (eqb condition FALSE) (some else_value)
    (cond (eqb then_value else_value) (some then_value)
    (cond (eqb then_value TRUE && eqb else_value FALSE) (some condition)
    (cond (eqb then_value FALSE && eqb else_value TRUE) (some (negate condition)) none))))

-- the shortcut's answer, or selected_then or selected_else
unfoldable pub mux_unless : Aig → Literal → Literal → Literal → Option Literal → Built
mux_unless g condition then_value else_value (some l) = record { aig = g; literal = l }
mux_unless g condition then_value else_value none =
    let selected_then = and g condition then_value in
    let selected_else = and selected_then.aig (negate condition) else_value in
    or selected_else.aig selected_then.literal selected_else.literal

-- the choice between two values
unfoldable pub mux : Aig → Literal → Literal → Literal → Built
mux g condition then_value else_value = mux_unless g condition then_value else_value (mux_shortcut condition then_value else_value)

-- the value of a literal, from the values of all nodes
unfoldable pub evaluate : List Bool → Literal → Bool
evaluate values l = xorBool (get_or values (node l) false) (inverted l)

-- the value of a node, from the variables' values and the values of the nodes before it
unfoldable pub aig_node_value : (ℕ → Bool) → List Bool → Node → Bool
aig_node_value environment values Constant = false
aig_node_value environment values (Variable v) = environment v
aig_node_value environment values (And lhs rhs) = evaluate values lhs && evaluate values rhs

-- the values so far, and those of the nodes that follow
unfoldable pub aig_values_from : (ℕ → Bool) → List Node → List Bool → List Bool
aig_values_from environment [] values = values
aig_values_from environment (n ∷ ns) values = aig_values_from environment ns (snoc values (aig_node_value environment values n))

-- the values of all nodes, from the variables' values
unfoldable pub aig_node_values : (ℕ → Bool) → Aig → List Bool
aig_node_values environment g = aig_values_from environment g []

-- naming this in an `unfolding` line opens the definitions of this file and those it uses
unfoldable pub all : Unit {0}
unfolding new variable is_and and_found and_shortcut and_unless and or xor_shortcut xor_unless xor mux_shortcut mux_unless mux evaluate aig_node_value aig_values_from aig_node_values Literals.all Lists.all xorBool
all = tt

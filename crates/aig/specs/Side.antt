-- Where the graph of a side lies: two regions between the proof graph and the imported literals. Assumes nothing.
use Rattle.std.specs.Prelude.{◌≡◌, true, ℕ, ◌+◌, ◌≤◌, ◌<◌, leb}
use Rattle.std.proofs.Math.Bool.{or-true}
use Rattle.std.proofs.Common.{arith, lt-ltb, le-leb}
use Rattle.words.specs.Layout.{SMALL, GOLD-LHS, GATE-RHS, AND-HEADS}
use Rattle.words.specs.Region.{apart, size_of}

module _ (b : ℕ) (lo : GOLD-LHS ≤ b) (hi : b ≤ GATE-RHS) where
  -- its size
  pub side-size : size_of b ≡ SMALL
  side-size = rw (lt-ltb b AND-HEADS (omega arith))

  -- it lies past a small region before it, and that region before it
  pub side-above : (x : ℕ) → x + SMALL ≤ b → x < AND-HEADS → apart b x ≡ true
  side-above x h k = rw (lt-ltb x AND-HEADS k, le-leb (x + SMALL) b h) (or-true (leb (b + size_of b) x))

  pub side_after : (x : ℕ) → x + SMALL ≤ b → x < AND-HEADS → apart x b ≡ true
  side_after x h k = rw (lt-ltb x AND-HEADS k, le-leb (x + SMALL) b h)

  -- it lies before a region past it
  pub side_under : (x : ℕ) → b + SMALL ≤ x → apart b x ≡ true
  side_under x h = rw (side-size, le-leb (b + SMALL) x h)

  pub side_before : (x : ℕ) → b + SMALL ≤ x → apart x b ≡ true
  side_before x h = rw (side-size, le-leb (b + SMALL) x h) (or-true (leb (x + size_of x) b))

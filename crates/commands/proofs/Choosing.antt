-- The command that a line's first word chooses. Assumes nothing.
use Prim.Native.Nat.{ℕ}
use mathlib.Core.Path.{◌≡◌, refl}
use mathlib.Core.Bool.{true, false}
use mathlib.Core.List.{List}
use Rattle.calls.specs.Commands.{resize_command, empty_command}
use Rattle.commands.specs.Commands.{is, lent_command, command_of}

module _ (ws : List (List ℕ)) where
  pub is_resize : is ws "resize" ≡ true → command_of ws ≡ resize_command ws
  unfolding command_of
  is_resize e = rw e refl

  pub is_empty : is ws "resize" ≡ false → is ws "empty" ≡ true → command_of ws ≡ empty_command ws
  unfolding command_of
  is_empty e f = rw (e, f) refl

  pub is_lent : is ws "resize" ≡ false → is ws "empty" ≡ false → command_of ws ≡ lent_command ws
  unfolding command_of
  is_lent e f = rw (e, f) refl

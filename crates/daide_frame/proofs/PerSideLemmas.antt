-- Properties of pairs with one value for each side.
use Rattle.std.proofs.Common.{◌≡◌, refl, ap, ◌∙◌}
use Rattle.daide_frame.specs.declared.side.Side.{Side}
use Rattle.daide_frame.specs.declared.side.Side.TheVariants.{Bot, Server}
use Rattle.daide_frame.specs.Side.{other}
use Rattle.daide_frame.specs.PerSide.{PerSide, at, put}

pub at_put : {A : Type 0} (b : PerSide A) (side : Side) (x : A) → at (put b side x) side ≡ x
at_put b Bot x = refl
at_put b Server x = refl

pub put_there : {A : Type 0} (b : PerSide A) (side : Side) (x : A) → at (put b side x) (other side) ≡ at b (other side)
put_there b Bot x = refl
put_there b Server x = refl

-- if a property holds for the new value at a side, and held for each side before, it holds for each side after
pub put_all : {A : Type 0} (P : Side → A → Type 0) (b : PerSide A) (side : Side) (x : A) → P side x →
    ((one : Side) → P one (at b one)) → (one : Side) → P one (at (put b side x) one)
put_all P b Bot x here there Bot = here
put_all P b Bot x here there Server = there Server
put_all P b Server x here there Bot = there Bot
put_all P b Server x here there Server = here

-- the same if it held for the other side before
pub put_each : {A : Type 0} (P : Side → A → Type 0) (b : PerSide A) (side : Side) (x : A) → P side x →
    P (other side) (at b (other side)) → (one : Side) → P one (at (put b side x) one)
put_each P b Bot x here there Bot = here
put_each P b Bot x here there Server = there
put_each P b Server x here there Bot = there
put_each P b Server x here there Server = here

pub both_same : {A : Type 0} (a b : PerSide A) → a.bot ≡ b.bot → a.server ≡ b.server → a ≡ b
both_same {A = A} a b e h =
    ap (λ (x : A). record { bot = x; server = a.server }) e ∙ ap (λ (x : A). record { bot = b.bot; server = x }) h

-- a statement that holds for both sides holds for each side
pub on_both : (P : Side → Type 0) → P Bot → P Server → (side : Side) → P side
on_both P bot server Bot = bot
on_both P bot server Server = server

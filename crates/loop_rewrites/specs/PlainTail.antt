-- The plain forms of divisions.
use Rattle.loop_laws.specs.DivideLoop as plain
use Rattle.loop_laws.specs.DivideLoop.{Division}
use Rattle.loop_rewrites.specs.declared.dividing.Dividing.{Dividing}
use Rattle.loop_rewrites.specs.declared.dividing.Tail.{Tail}
use Rattle.loop_rewrites.specs.declared.dividing.Tail.TheVariants.{Guard, Cut, CutAndGuard, Perfect}

abbrev pub plain_tail : Tail → plain.Tail
plain_tail Guard = plain.Guard
plain_tail Cut = plain.Cut
plain_tail CutAndGuard = plain.CutAndGuard
plain_tail Perfect = plain.Perfect

abbrev pub division : Dividing → Division
division d = record {
  by = d.by;
  outer = d.outer.now;
  inner = d.inner.now;
  tail = plain_tail d.tail;
}

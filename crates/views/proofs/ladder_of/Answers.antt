-- The levels left from low on, put from place j on, give what all levels put from the front give; each turn takes the nearest level off.
-- Assumes nothing.
use mathlib.Core.Path.{◌≡◌, sym, ap, ◌∙◌}
use Prim.Native.Nat.{◌+◌}
use native.Mathlib.Omega.{arith}
use lib.ListN.{length}
use Rattle.rows.specs.Rows.{rows}
use Rattle.rows.proofs.Tables.{length_rows}
use Rattle.views.specs.Ladder.{far, level_of, put_level}
use Rattle.views.proofs.Laws.{places_few, place_found, ladder_length, ladder_from, ladder_start, ladder_next, ladder_end}
use Rattle.views.proofs.Runs.{laid, laid_step, laid_end, run_none, run_all}
use Rattle.views.proofs.ladder_of.Goals as goal

pub returns-then-not-good_rows : goal.returns-then-not-good_rows
returns-then-not-good_rows c = let a = c.args in run_none a.key a.orders.now a.out.now (sym c.good_rows.ensures ∙ c.if-not-good_rows.true)

pub loop-d-init : goal.loop-d-init
loop-d-init c =
    let a = c.args in
    let s = ladder_start a.key (rows a.orders.now) in
    (rw s, rw s (omega arith))

pub far_of-requires : goal.far_of-requires
far_of-requires c = (place_found c.args.key c.loop-d.low (rows c.args.orders.now) c.in-Some.d (sym c.in-Some.is ∙ c.nearest.ensures)).1

pub overflow_add-j : goal.overflow_add-j
overflow_add-j c =
    let a = c.args in
    let l = c.loop-d in
    omega (arith, l.invariant.1, ap length (ladder_next a.key (rows a.orders.now) l.low c.in-Some.d (sym c.in-Some.is ∙ c.nearest.ensures)), ladder_length a.key (rows a.orders.now), places_few a.key (rows a.orders.now), length_rows a.orders.now)

pub overflow_add-low : goal.overflow_add-low
overflow_add-low c = omega (arith, (place_found c.args.key c.loop-d.low (rows c.args.orders.now) c.in-Some.d (sym c.in-Some.is ∙ c.nearest.ensures)).1)

pub loop-d-smaller : goal.loop-d-smaller
loop-d-smaller c =
    let a = c.args in
    omega (arith, ap length (ladder_next a.key (rows a.orders.now) c.loop-d.low c.in-Some.d (sym c.in-Some.is ∙ c.nearest.ensures)))

pub loop-d-preserved : goal.loop-d-preserved
loop-d-preserved c =
    let a = c.args in
    let l = c.loop-d in
    let d = c.in-Some.d in
    let n = ladder_next a.key (rows a.orders.now) l.low d (sym c.in-Some.is ∙ c.nearest.ensures) in
    let v : c.level_at.result ≡ level_of a.key (rows a.orders.now) (far a.key d) = c.level_at.ensures ∙ ap (level_of a.key (rows a.orders.now)) c.far_of.ensures in
    let p : c.put_level.new.out ≡ put_level l.out l.j (level_of a.key (rows a.orders.now) (far a.key d)) = c.put_level.ensures ∙ ap (put_level l.out l.j) v in (
      l.invariant.0 ∙ (ap (λ ls. laid l.j ls l.out) n ∙ (laid_step l.j _ (ladder_from a.key (rows a.orders.now) (d + 1)) l.out ∙ rw p)),
      omega (arith, l.invariant.1, ap length n),
    )

pub returns : goal.returns
returns c =
    let a = c.args in
    let l = c.loop-d in
    let z = ladder_end a.key (rows a.orders.now) l.low (sym c.in_default.is ∙ c.nearest.ensures) in
    run_all a.key a.orders.now a.out.now l.j l.out (sym c.good_rows.ensures ∙ c.if-not-good_rows.false)
    (omega (arith, l.invariant.1, ap length z))
    (l.invariant.0 ∙ laid_end l.j _ l.out z)

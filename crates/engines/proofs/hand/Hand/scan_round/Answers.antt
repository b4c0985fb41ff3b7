use Rattle.std.proofs.Common.{◌≡◌, ℕ, Bool, true, false, List, length, sym, ◌∙◌}
use Rattle.network.specs.declared.engine.SiteWork.{SiteWork}
use Rattle.engines.specs.declared.hand.Hand.{Hand}
use Rattle.engines.specs.Hands.{SameHand}
use Rattle.engines.proofs.Rounds.{Reached, round_idle, round_line, round_pass}
use Rattle.engines.proofs.Arcs.{over_by, joins_at}
use Rattle.engines.proofs.Hands.{same_then}
use Rattle.engines.proofs.hand.Hand.scan_round.Goals as goal
use Rattle.engines.proofs.hand.Hand.scan_round.Goals.{then-may_reach, else-may_reach}

-- what a try has reached, told of the lines and marks that the round began with
reached_from : (h g : Hand) (d : ℕ) (ws : List SiteWork) (hit : Bool) (k : ℕ) (e : Bool) → SameHand h g → g.marks.now ≡ h.marks.now →
    Reached g.pair.net.lines.now g.marks.now d g.work.now ws hit k e → Reached h.pair.net.lines.now h.marks.now d g.work.now ws hit k e
reached_from h g d ws hit k e same marks r = rw (← same.pair, ← marks) r

pub loop-k-preserved : goal.loop-k-preserved
loop-k-preserved c =
    let h = c.args.self.now in
    let g = c.loop-k.self in
    let old = c.loop-k.invariant in
    let ls = h.pair.net.lines.now in
    let ms = h.marks.now in
    let d = c.args.layer in
    let k = c.loop-k.k in
    let found = c.loop-k.found in
    let joins = joins_at h.pair.net.sites (length g.work.now) ls (rw (← old.0.pair) g.kept) h.pair.net.joined in
    elim c.if-may_reach.branch [
      | then-may_reach w ↦
          let f = w.try_reach-forth.new.self in
          let b = w.try_reach-back.new.self in
          let forth = w.try_reach-forth.result in
          let back = w.try_reach-back.result in
          let same_f = same_then h g f old.0 w.try_reach-forth.ensures.same in
          let marks_f = w.try_reach-forth.ensures.marks ∙ old.1 in
          let size : length f.work.now ≡ length g.work.now = rw (f.kept, w.try_reach-forth.ensures.same.pair) (sym g.kept) in
          let went_forth = reached_from h g d f.work.now forth k true old.0 old.1
          (over_by (Reached g.pair.net.lines.now g.marks.now d g.work.now f.work.now forth) w.over.result k true w.over.ensures
          (w.try_reach-forth.ensures.answer, w.try_reach-forth.ensures.after)) in
          let went_back = reached_from h f d b.work.now back k false same_f marks_f
          (over_by (Reached f.pair.net.lines.now f.marks.now d f.work.now b.work.now back) w.over-then-may_reach.result k false w.over-then-may_reach.ensures
          (w.try_reach-back.ensures.answer, w.try_reach-back.ensures.after)) in (
            rw w.self-is (same_then h f b same_f w.try_reach-back.ensures.same),
            rw w.self-is (w.try_reach-back.ensures.marks ∙ marks_f),
            λ a r. rw (w.self-is, w.found-is)
                (round_line ls ms a d found g.work.now f.work.now b.work.now k forth back c.loop-k-test.true joins size (old.2 a r) went_forth went_back),
            λ off. rw w.self-is
                (round_idle ls ms 0 d found forth back h.work.now g.work.now f.work.now b.work.now k (sym w.found-is ∙ off) old.3 went_forth went_back),
          )
      | else-may_reach w ↦ (
        rw w.self-is old.0,
        rw w.self-is old.1,
        λ a r. rw (w.self-is, w.found-is)
            (round_pass ls ms a d found c.may_reach.result g.work.now k c.loop-k-test.true joins (old.2 a r) c.may_reach.ensures w.if-may_reach.false),
        λ off. rw w.self-is (old.3 (sym w.found-is ∙ off)),
      )
    ]

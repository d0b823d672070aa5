-- `packer::PatternTable::add` meets its contract: the new pattern is the last of its spot, and all others are kept as they were.
-- Assumes nothing.
use Rattle.std.proofs.Common.{rules, arith, get_or, []}
use Rattle.packer.proofs.Words.{spot_below}
use Rattle.packer.proofs.Chains.{kept_more}
use Rattle.packer.proofs.PatternTable.add.Goals as goal

pub bounds-self-spot : goal.bounds-self-spot
bounds-self-spot c = omega (arith, c.requires.at, spot_below (get_or c.args.self.now.glyphs.now c.args.g []))

pub bounds-self-spot-2 : goal.bounds-self-spot-2
bounds-self-spot-2 c = omega (arith, c.requires.at, spot_below (get_or c.args.self.now.glyphs.now c.args.g []))

pub invariant_of-self : goal.invariant_of-self
invariant_of-self c =
    let t = c.args.self.now in
    record { kept = kept_more t.glyphs.now t.firsts t.nexts t.heads t.used c.args.g c.args.spot t.kept c.requires (search rules) (search rules) (search rules) }

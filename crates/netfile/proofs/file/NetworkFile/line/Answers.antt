use Rattle.std.proofs.Common.{◌≡◌, ◌≤◌, ℕ, List, map, length, sym, ap, ◌∙◌, rules, arith}
use Rattle.std.proofs.lemmas.List.{length-map}
use Rattle.std.proofs.lemmas.Option.{slice_get-map}
use Rattle.netfile.specs.Layout.{pair_at, numbers_of, site_offset, site_count, site_numbers}
use Rattle.netfile.specs.Records.{named_from, line_from}
use Rattle.netfile.specs.Meaning.{lines_in}
use Rattle.netfile.proofs.Accepted.{file_bounded}
use Rattle.netfile.proofs.Chunks.{numbers_of_records, length_records, lines_of_records, lent_there}
use Rattle.netfile.proofs.file.NetworkFile.line.Goals as goal

pub line_between-requires : goal.line_between-requires
line_between-requires c =
    let f = c.args.self.now in
    let bs = f.bytes.now in
    let few : site_count bs ≤ 64 = (file_bounded bs f.accepted).few_sites in
    let all : length f.sites.records.now ≡ site_count bs =
    ap (λ (rs : List (List ℕ)). length rs) f.sites_read ∙ length_records bs (site_offset bs) 8 (site_count bs) in
    omega (arith, length-map f.sites.records.now (λ r. pair_at r 0))

pub returns-in_err-record : goal.returns-in_err-record
returns-in_err-record c =
    let f = c.args.self.now in
    let lines : lines_in f.bytes.now ≡ map (λ r. line_from (site_numbers f.bytes.now) (named_from r 0)) f.lines.records.now =
    lines_of_records f.bytes.now ∙ ap (map (λ r. line_from (site_numbers f.bytes.now) (named_from r 0))) (sym f.lines_read) in
    let got = lent_there f.lines.records.now c.args.position c.get.result c.get.ensures.lookup in
    let there = slice_get-map (λ r. line_from (site_numbers f.bytes.now) (named_from r 0)) f.lines.records.now c.args.position in
    search rules

pub returns : goal.returns
returns c =
    let f = c.args.self.now in
    let bs = f.bytes.now in
    let numbers : numbers_of f.sites.records.now ≡ site_numbers bs =
    ap numbers_of f.sites_read ∙ numbers_of_records bs (site_offset bs) 8 (site_count bs) (omega arith, omega arith) in
    let lines : lines_in bs ≡ map (λ r. line_from (site_numbers bs) (named_from r 0)) f.lines.records.now =
    lines_of_records bs ∙ ap (map (λ r. line_from (site_numbers bs) (named_from r 0))) (sym f.lines_read) in
    let got = lent_there f.lines.records.now c.args.position c.get.result c.get.ensures.lookup in
    let there = slice_get-map (λ r. line_from (site_numbers f.bytes.now) (named_from r 0)) f.lines.records.now c.args.position in
    search rules

use Rattle.std.proofs.Common.{◌+◌, ◌∙◌, ap, inr, length, arith}
use Rattle.csv.specs.Machine.{ends_at_end}
use Rattle.csv.specs.Reading.{default_config, records_from, strip_bom}
use Rattle.bp_stayfile.specs.Records.{records_in}
use Rattle.bp_stayfile.proofs.CsvLemmas.{records_few, strip-le}
use Rattle.bp_stayfile.proofs.tables.reading.reader_of.Goals as goal

pub returns-clause-reading : goal.returns-clause-reading
returns-clause-reading c =
    let fr = c.from_reader.ensures in
    let e = c.has_headers.ensures in
    let f = c.flexible.ensures in
    record {
      config = rw (f, e) at fr.config ∙ c.new.ensures.config;
      trim = rw (f, e) at fr.trim ∙ c.new.ensures.trim;
      flexible = rw f at fr.flexible;
      ready = inr (inr (rw (f, e) at fr.has_headers, fr.headers));
      bytes = strip_bom c.args.bytes.now;
      known = fr.source;
      between = ap ends_at_end fr.state;
    }

pub returns-clause-records : goal.returns-clause-records
returns-clause-records c =
    let fr = c.from_reader.ensures in
    let bytes = strip_bom c.args.bytes.now in
    ap (records_in c.from_reader.result.state) fr.source ∙ ap (λ s. records_from default_config (length bytes + 1) s bytes) fr.state

pub returns-clause-few : goal.returns-clause-few
returns-clause-few c =
    let fr = c.from_reader.ensures in
    let bytes = strip_bom c.args.bytes.now in
    let left = ap (records_in c.from_reader.result.state) fr.source in
    omega (arith, ap length left, records_few (length bytes + 1) c.from_reader.result.state bytes, strip-le c.args.bytes.now)

-- What the parts read so far stand for.
use Rattle.std.specs.Prelude.{List, map}
use Rattle.std.specs.Global.{Vec}
use Rattle.rc_lang.specs.Nesting.{Way}
use Rattle.rc_lang.specs.Parts.{view_buffer, view_items, view_names, view_stock, view_thread}
use Rattle.rc_lang.specs.Program.{Items}
use Rattle.rc_lang.specs.declared.program.Items.{Items as ItemsPart}
use Rattle.rc_read.specs.Sheets.{Sheet, Draft, Arms}
use Rattle.rc_read.specs.declared.blocks.Way.{Way as WayPart}
use Rattle.rc_read.specs.declared.parts.Arms.{Arms as ArmsPart}
use Rattle.rc_read.specs.declared.parts.Draft.{Draft as DraftPart}
use Rattle.rc_read.specs.declared.parts.Parts.{Parts}

abbrev pub view_lists : Vec ItemsPart → List Items
view_lists lists = map view_items lists.items

abbrev pub view_arms : ArmsPart → Arms
view_arms a = record { cases = a.cases.items; other = a.other; none = a.none }

abbrev pub view_draft : DraftPart → Draft
view_draft d = record {
  name = d.name.items;
  copies = d.copies;
  line = d.line;
  items = view_items d.items;
  lists = view_lists d.lists;
  names = view_names d.names.keys;
  blocks = d.blocks.items;
  lines = d.lines.items;
  ends = d.ends.items;
  arms = view_arms d.arms;
  flag = d.flag;
}

abbrev pub view_sheet : Parts → Sheet
view_sheet p = record {
  count = p.count;
  region = p.region;
  head = p.head;
  files = p.files.items;
  buffers = map view_buffer p.buffers.items;
  tokens = p.tokens.items;
  pools = view_names p.pools.items;
  stock = map view_stock p.stock.items;
  threads = map view_thread p.threads.items;
  draft = view_draft p.draft;
}

abbrev pub view_way : WayPart → Way
view_way w = record { loop = w.place; releases = w.releases; leaves = w.leaves }

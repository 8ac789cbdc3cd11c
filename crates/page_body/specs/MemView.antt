-- What contracts see of a pool in memory.
use Rattle.page_body.specs.View.{PoolView}
use Rattle.page_body.specs.Slots.{slots_view}
use Rattle.page_body.specs.declared.mem_page.MemPage.{MemPage}
use Rattle.page_body.specs.declared.mem_page.MemPin.{MemPin}
use Rattle.page_body.specs.declared.mem_pages.MemPages.{MemPages}

abbrev pub mem_view : MemPages → PoolView MemPage MemPin
mem_view s = slots_view s.page s.grant s.held s.slots.items

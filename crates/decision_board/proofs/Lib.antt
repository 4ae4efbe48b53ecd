mod Boards
mod Histories
mod Maps
mod Next
mod Steps
